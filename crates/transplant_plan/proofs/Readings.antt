-- The plan of a file's bytes, case by case.
use Rattle.std.proofs.Common.{◌≡◌, ℕ, ◌==◌, ◌<◌, true, false, List, length, Some, None, Ok, Err, eq-eqb, arith}
use Rattle.std.proofs.lemmas.Bool.Decides.{nat_tests}
use Rattle.std.proofs.lemmas.Str.{utf8_valid_len-IsUtf8, utf8_valid_len-IsValidUpTo}
use Rattle.std.specs.Str.{IsUtf8, IsValidUpTo}
use Rattle.toml.specs.Data.{Members}
use Rattle.toml.specs.Parse.{parse_document}
use Rattle.transplant_plan.specs.PlanFile.{first_fault, top_fault, assignment, is_utf8, plan_of}
use Rattle.transplant_plan.specs.declared.fault.PlanFault.{PlanFault}
use Rattle.transplant_plan.specs.declared.fault.PlanFault.TheVariants as fault

pub is_utf8-IsUtf8 : (bytes : List ℕ) → IsUtf8 bytes → is_utf8 bytes ≡ true
is_utf8-IsUtf8 bytes text = eq-eqb _ _ (utf8_valid_len-IsUtf8 bytes text)

below_not : (m n : ℕ) → m < n → (m == n) ≡ false
below_not m n below = grind (arith, nat_tests)

is_utf8-cut : (bytes : List ℕ) (n : ℕ) → IsValidUpTo bytes n → is_utf8 bytes ≡ false
is_utf8-cut bytes n cut = rw (utf8_valid_len-IsValidUpTo bytes n cut) (below_not n (length bytes) cut.short)

pub plan_of-cut : (bytes : List ℕ) (n : ℕ) → IsValidUpTo bytes n → plan_of bytes ≡ Err fault.NotUtf8
unfolding plan_of
plan_of-cut bytes n cut = rw (is_utf8-cut bytes n cut)

module _ (bytes : List ℕ) (text : IsUtf8 bytes) where
  pub plan_of-unparsed : parse_document bytes ≡ None → plan_of bytes ≡ Err fault.NotToml
  unfolding plan_of
  plan_of-unparsed unparsed = rw (is_utf8-IsUtf8 bytes text, unparsed)

  pub plan_of-faulty : (document : Members) (f : PlanFault) → parse_document bytes ≡ Some document → first_fault top_fault document ≡ Some f
      → plan_of bytes ≡ Err f
  unfolding plan_of
  plan_of-faulty document f parsed found = rw (is_utf8-IsUtf8 bytes text, parsed, found)

  pub plan_of-sound : (document : Members) → parse_document bytes ≡ Some document → first_fault top_fault document ≡ None
      → plan_of bytes ≡ Ok (assignment document)
  unfolding plan_of
  plan_of-sound document parsed none = rw (is_utf8-IsUtf8 bytes text, parsed, none)
