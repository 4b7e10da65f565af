-- The input that was taken, or why there is none.
use Rattle.std.proofs.Common.{◌≡◌, ◌≢◌, ℕ, List, [], Option, None, Some, Bor, option_map, Err, refl, ap, sym, subst, ◌∙◌}
use Rattle.flex_base.specs.Files.{Files}
use Rattle.flex_top.specs.Answer.{input_limit, input_from}
use Rattle.flex_top.specs.Taking.{Gives, IsRefused}
use Rattle.flex_top.specs.declared.status.Status.{Status}
use Rattle.flex_top.proofs.Taking.{taken_as, unread, wanting, input_long, input_taken, input_none}
use Rattle.flex_top.proofs.sources.take_input.Goals as goal

abbrev text_of : Option (Bor (List ℕ)) → Option (List ℕ)
text_of name = option_map (λ text. text.now) name

none_is : (name : Option (Bor (List ℕ))) → ((text : Bor (List ℕ)) → name ≢ Some text) → text_of name ≡ None
none_is None other = refl
none_is (Some text) other = absurd (other text refl)

gives_as : (held : Option Files) (name other : Option (List ℕ)) (input : List ℕ) → name ≡ other → Gives (List ℕ) held other input_from input → Gives (List ℕ) held name input_from input
gives_as held name other input is gives =
    let At : Option (List ℕ) → Type 0 = λ o. Gives (List ℕ) held o input_from input in
    subst At (sym is) gives

refused_as : (held : Option Files) (name : Option (Bor (List ℕ))) (text : Bor (List ℕ)) (why : Status) → name ≡ Some text → IsRefused (List ℕ) held (Some text.now) input_from why
    → IsRefused (List ℕ) held (text_of name) input_from why
refused_as held name text why is refused =
    let At : Option (Bor (List ℕ)) → Type 0 = λ o. IsRefused (List ℕ) held (text_of o) input_from why in
    subst At (sym is) refused

pub returns-in_default-clause-gives : goal.returns-in_default-clause-gives
returns-in_default-clause-gives g c =
    let held = (g.O.Outer.outside c.args.outer.now).held in
    let Of : List ℕ → Type 0 = λ input. Gives (List ℕ) held (text_of c.args.name) input_from input in
    subst Of (sym c.new.ensures.items) (gives_as held (text_of c.args.name) None [] (none_is c.args.name c.in_default.not-Some) (input_none held))

pub returns-in-Ok-clause-gives : goal.returns-in-Ok-clause-gives
returns-in-Ok-clause-gives g c =
    let held = (g.O.Outer.outside c.args.outer.now).held in
    gives_as held (text_of c.args.name) (Some c.in-Some.name.now) c.in-Ok.input.items (ap text_of c.in-Some.is)
    (input_taken held c.in-Some.name.now c.in-Ok.input.items c.in-Ok.ensures.taken c.in-Ok.ensures.within)

pub returns-in-Err-Failed-clause-refused : goal.returns-in-Err-Failed-clause-refused
returns-in-Err-Failed-clause-refused g c = unread (List ℕ) (g.O.Outer.outside c.args.outer.now).held (text_of c.args.name) input_from refl

pub returns-in-Err-TooLong-clause-refused : goal.returns-in-Err-TooLong-clause-refused
returns-in-Err-TooLong-clause-refused g c =
    let held = (g.O.Outer.outside c.args.outer.now).held in
    refused_as held c.args.name c.in-Some.name _ c.in-Some.is
    (input_long held c.in-Some.name.now c.in-Err-TooLong.n (taken_as held c.in-Some.name.now input_limit _ _ c.in-Err-TooLong.field-0-is c.in-Err-TooLong.ensures.taken)
    (c.take.ensures.over c.in-Err-TooLong.n (c.in-Err-TooLong.is ∙ ap Err c.in-Err-TooLong.field-0-is)))

pub returns-in-Err-OutOfMemory-clause-refused : goal.returns-in-Err-OutOfMemory-clause-refused
returns-in-Err-OutOfMemory-clause-refused g c =
    let held = (g.O.Outer.outside c.args.outer.now).held in
    refused_as held c.args.name c.in-Some.name _ c.in-Some.is
    (wanting (List ℕ) held c.in-Some.name.now input_limit input_from
    (taken_as held c.in-Some.name.now input_limit _ _ c.in-Err-OutOfMemory.field-0-is c.in-Err-OutOfMemory.ensures.taken))
