-- The words of the command line, as a grammar. A part that doesn't read makes the whole unreadable.
use Rattle.std.specs.Prelude.{◌≡◌, ℕ, ◌+◌, ◌-◌, ◌*◌, ◌<◌, ◌≤◌, Bool, true, false, not, ◌&&◌, ◌||◌, ◌==◌, nat_le, nat_lt, if◌then◌else◌, List, [], ◌∷◌, length, drop, map, fold, All, codes, nat_eq, bytes_eq, Option, None, Some, option_map}
use Rattle.std.specs.List.{list_all, filter_map, position_or_len, starts_with}
use Rattle.flex_base.specs.Limits.{is_within, mebibyte}
use Rattle.flex_base.specs.Word.{is_multiple}
use Rattle.flex_base.specs.declared.settings.Settings.{Settings}
use Rattle.flex_top.specs.declared.words.Command.{Command}
use Rattle.flex_top.specs.declared.words.Given.{Given}
use Rattle.flex_top.specs.declared.words.Given.TheVariants as as_given

-- what `solo` or `run` is asked to do: the names of the image and the trace, the settings, the names of the plan and of the
-- console's input where there are any, and the harts that make the next events before the rounds
pub record Reading : Type 0 where
  pub image : List ℕ
  pub trace : List ℕ
  pub settings : Settings
  pub plan : Option (List ℕ)
  pub input : Option (List ℕ)
  pub order : List ℕ

-- a name isn't empty and doesn't begin with `-`
abbrev pub is_name : List ℕ → Bool
is_name [] = false
is_name (first ∷ rest) = not (first == 45)

abbrev pub is_digit : ℕ → Bool
is_digit byte = is_within 48 57 byte

-- 1 to 10 decimal digits
abbrev pub is_number : List ℕ → Bool
is_number word = is_within 1 10 (length word) && list_all is_digit word

-- the value of decimal digits, leading zeros allowed
abbrev pub number_of : List ℕ → ℕ
number_of digits = fold (λ n digit. 10 * n + (digit - 48)) 0 digits

-- a number from 1 up to its limit
abbrev pub number : ℕ → List ℕ → Option ℕ
number most word = if is_number word && is_within 1 most (number_of word) then Some (number_of word) else None

-- the hart that a character names, by its place among the names; 32, which is no hart, where it names none
unfoldable pub hart_of : ℕ → ℕ
hart_of character = position_or_len (λ name. name == character) (codes "0123456789abcdefghijklmnopqrstuv")

abbrev pub is_hart_name : ℕ → Bool
is_hart_name character = nat_lt (hart_of character) 32

-- 1 to 65,536 names of harts
abbrev pub is_order : List ℕ → Bool
is_order text = is_within 1 65536 (length text) && list_all is_hart_name text

abbrev pub order : List ℕ → Option (List ℕ)
order text = if is_order text then Some (map hart_of text) else None

-- the value of an option, a word that begins with this text
abbrev pub value_of : List ℕ → List ℕ → Option (List ℕ)
value_of name word = if starts_with nat_eq word name then Some (drop (length name) word) else None

-- the values of an option, one for each word that begins with its text
abbrev pub values : List ℕ → List (List ℕ) → List (List ℕ)
values name words = filter_map (value_of name) words

-- an option that isn't given has its default, and one that is given twice has no reading
abbrev pub option_of : {A : Type 0} → A → (List ℕ → Option A) → List (List ℕ) → Option A
option_of default read [] = Some default
option_of default read (value ∷ []) = read value
option_of default read (first ∷ second ∷ more) = None

-- an option whose value is a number
abbrev pub number_option : List ℕ → ℕ → ℕ → List (List ℕ) → Option ℕ
number_option name default most words = option_of default (number most) (values name words)

-- the names of harts that `--order=` gives
abbrev pub order_option : List (List ℕ) → Option (List ℕ)
order_option words = option_of [] order (values (codes "--order=") words)

-- the name of a file as the value of an option, which may be any but an empty one
abbrev pub named : List ℕ → Option (Option (List ℕ))
named [] = None
named (first ∷ rest) = Some (Some (first ∷ rest))

-- the name that an option gives, or none
abbrev pub name_option : List ℕ → List (List ℕ) → Option (Option (List ℕ))
name_option name words = option_of None named (values name words)

-- a word that begins with the text of one of the options; `--order=` is one where an order may be given
abbrev pub is_option : Bool → List ℕ → Bool
is_option ordered word = starts_with nat_eq word (codes "--harts=") || starts_with nat_eq word (codes "--ram=")
    || starts_with nat_eq word (codes "--budget=") || starts_with nat_eq word (codes "--plan=")
    || starts_with nat_eq word (codes "--input=") || (ordered && starts_with nat_eq word (codes "--order="))

abbrev pub run_settings : ℕ → ℕ → ℕ → Settings
run_settings harts ram budget = record { harts = harts; ram = ram; budget = budget }

-- all harts together make at most 262,144 ends
abbrev pub reading_of : List ℕ → List ℕ → Option ℕ → Option ℕ → Option ℕ → Option (Option (List ℕ))
    → Option (Option (List ℕ)) → Option (List ℕ) → Option Reading
reading_of image trace (Some harts) (Some mebibytes) (Some budget) (Some plan) (Some input) (Some order) =
    if nat_le (harts * budget) 262144
    then Some (record {
      image = image;
      trace = trace;
      settings = run_settings harts (mebibyte * mebibytes) budget;
      plan = plan;
      input = input;
      order = order;
    })
    else None
reading_of image trace harts mebibytes budget plan input order = None

-- the options in any order: 1 hart, 16 MiB, 8,192 ends, no plan, no input and no order where they aren't given
abbrev pub with_options : List ℕ → List ℕ → List (List ℕ) → Option Reading
with_options image trace words = reading_of image trace (number_option (codes "--harts=") 1 32 words)
    (number_option (codes "--ram=") 16 256 words)
    (number_option (codes "--budget=") 8192 262144 words) (name_option (codes "--plan=") words)
    (name_option (codes "--input=") words) (order_option words)

-- the word of a command, and two names
abbrev pub is_named : List ℕ → List ℕ → List ℕ → List ℕ → Bool
is_named name command image trace = bytes_eq command name && is_name image && is_name trace

-- those of the command of this name, and the options, among which an order may be where it takes one
abbrev pub reading_by : List ℕ → Bool → List (List ℕ) → Option Reading
reading_by name ordered (command ∷ image ∷ trace ∷ rest) =
    if is_named name command image trace && list_all (is_option ordered) rest then with_options image trace rest else None
reading_by name ordered other = None

-- `solo` takes an order
abbrev pub reading : List (List ℕ) → Option Reading
reading words = reading_by (codes "solo") true words

-- `run` takes none
abbrev pub run_reading : List (List ℕ) → Option Reading
run_reading words = reading_by (codes "run") false words

-- a command of the code, as its reading
abbrev pub reading_of_command : Command → Reading
reading_of_command command = record {
  image = command.image.now;
  trace = command.trace.now;
  settings = command.settings;
  plan = option_map (λ name. name.now) command.plan;
  input = option_map (λ name. name.now) command.input;
  order = map hart_of command.order.now;
}

-- what the code finds of an option is what its values are
abbrev pub IsGiven : List (List ℕ) → Given → Type 0
IsGiven found as_given.Never = found ≡ []
IsGiven found (as_given.Once value) = found ≡ value.now ∷ []
IsGiven found as_given.Twice = 2 ≤ length found

-- harts, RAM, budget and order are within their limits
pub record IsLimited (command : Command) : Type 0 where
  pub some_hart : 1 ≤ command.settings.harts
  pub harts : command.settings.harts ≤ 32
  pub some_ram : mebibyte ≤ command.settings.ram
  pub ram : command.settings.ram ≤ 268435456
  pub whole : is_multiple command.settings.ram mebibyte ≡ true
  pub some_budget : 1 ≤ command.settings.budget
  pub budget : command.settings.budget ≤ 262144
  pub ends : command.settings.harts * command.settings.budget ≤ 262144
  pub order : length command.order.now ≤ 65536
  pub names : All (λ character. hart_of character < 32) command.order.now
