-- Files in memory, as contracts see them.
use Rattle.std.specs.Prelude.{ℕ, ◌+◌, ◌-◌, ◌^◌, Bool, ◌==◌, nat_lt, if◌then◌else◌, List, map, Some, option_map, unwrap_or, [], String, Vec}
use Rattle.std.specs.List.{list_any}
use Rattle.std.specs.Map.{lookup}
use Rattle.std.specs.Str.{bytes_eq}
use Rattle.std.specs.BTreeMap.{BTreeMap, get_by_text}
use Rattle.std.specs.declared.alloc.Global.{Global}
use Rattle.flex_base.specs.Files.{Files}

-- the files of a list of names and contents; of one name the first counts
abbrev pub files_of : List (List ℕ × List ℕ) → Files
files_of files name = lookup (bytes_eq name) files

-- the same, where a name that isn't listed is an empty file
abbrev pub files_or_empty : List (List ℕ × List ℕ) → Files
files_or_empty files name = Some (unwrap_or (files_of files name) [])

-- the names and contents of a list of files
abbrev pub entries_of : List (List ℕ × Vec ℕ Global) → List (List ℕ × List ℕ)
entries_of files = map (λ file. (file.0, file.1.items)) files

-- the files of a map
abbrev pub files_of_map : BTreeMap (String Global) (Vec ℕ Global) → Files
files_of_map files name = option_map (λ v. v.items) (get_by_text files name)

-- this call is among those that fail
abbrev pub is_due : List ℕ → ℕ → Bool
is_due failing call = list_any (λ n. n == call) failing

-- the count after one more, which ends at 2^64 - 1
abbrev pub one_more : ℕ → ℕ
one_more count = if nat_lt count (2 ^ 64 - 1) then count + 1 else count
