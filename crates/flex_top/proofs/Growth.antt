-- How a file grows, piece by piece.
use Rattle.std.proofs.Common.{◌≡◌, ℕ, ◌+◌, ◌<◌, get_or, Result, Ok, Err, OnErr, List, [], ◌∷◌, ◌++◌, take, drop, length, Option, None, Some, unwrap_or, inl, inr, refl, subst, sym, ap, ◌∙◌, append_assoc}
use Rattle.std.proofs.Math.Seq.{take-append_seam}
use Rattle.std.proofs.lemmas.List.{append-nil, take-append-drop, take_more}
use Rattle.std.specs.List.{flat_map}
use Rattle.std.proofs.lemmas.Grind.{flat_map-append}
use Rattle.flex_base.specs.Files.{Files, ChangesFile, Appended, AppendedPart, Started, StartedPart}
use Rattle.flex_base.specs.Outside.{Outside, Writes}
use Rattle.flex_top.specs.Written.{Gains, Grows, Passes, PassesPart, Becomes, BecomesPart}

-- One file.

gains_on : (a b c : Option (List ℕ)) (x y : List ℕ) → Gains x a b → Gains y b c → Gains (x ++ y) a c
gains_on a b c x y (inl p) (inl q) = inl (q ∙ ap (λ (o : Option (List ℕ)). Some (unwrap_or o [] ++ y)) p ∙ ap (λ (t : List ℕ). Some t) (append_assoc (unwrap_or a []) x y))
gains_on a b c x y (inl p) (inr q) = inl (q.0 ∙ p ∙ ap (λ (t : List ℕ). Some (unwrap_or a [] ++ t)) (sym (append-nil x) ∙ ap (λ (t : List ℕ). x ++ t) (sym q.1)))
gains_on a b c x y (inr p) (inl q) = inl (q ∙ ap (λ (o : Option (List ℕ)). Some (unwrap_or o [] ++ y)) p.0 ∙ ap (λ (t : List ℕ). Some (unwrap_or a [] ++ (t ++ y))) (sym p.1))
gains_on a b c x y (inr p) (inr q) = inr (q.0 ∙ p.0, ap (λ (t : List ℕ). t ++ y) p.1 ∙ q.1)

gains_part : (old new : Option (List ℕ)) (piece : List ℕ) → AppendedPart piece old new → (n : ℕ) × Gains (take n piece) old new
gains_part old new piece (inl same) = (0, inr (same, refl))
gains_part old new piece (inr part) = (part.0, inl part.1)

-- what an empty file gained is its text
gains_all : (b c : Option (List ℕ)) (x : List ℕ) → b ≡ Some [] → Gains x b c → c ≡ Some x
gains_all b c x empty (inl p) = p ∙ ap (λ (o : Option (List ℕ)). Some (unwrap_or o [] ++ x)) empty
gains_all b c x empty (inr p) = p.0 ∙ empty ∙ ap (λ (t : List ℕ). Some t) (sym p.1)

was_or_empty : (text : List ℕ) (old new : Option (List ℕ)) → StartedPart old new → BecomesPart text old new
was_or_empty text old new (inl same) = inl same
was_or_empty text old new (inr empty) = inr (0, empty)

-- All files.

none_changes : (a : Option Files) (name : List ℕ) → ChangesFile a a name (Gains [])
none_changes None name = refl
none_changes (Some a) name = (inr (refl, refl), λ other differs. refl)

changes_on : (a b c : Option Files) (name : List ℕ) (P Q R : Option (List ℕ) → Option (List ℕ) → Type 0) → ((x y z : Option (List ℕ)) → P x y → Q y z → R x z)
    → ChangesFile a b name P → ChangesFile b c name Q → ChangesFile a c name R
changes_on None None c name P Q R on p q = q
changes_on None (Some b) c name P Q R on p q = cc
changes_on (Some a) None c name P Q R on p q = absurd p
changes_on (Some a) (Some b) None name P Q R on p q = absurd q
changes_on (Some a) (Some b) (Some c) name P Q R on p q = (on (a name) (b name) (c name) p.0 q.0, λ other differs. q.1 other differs ∙ p.1 other differs)

changes_weaker : (a b : Option Files) (name : List ℕ) (P Q : Option (List ℕ) → Option (List ℕ) → Type 0) → ((old new : Option (List ℕ)) → P old new → Q old new) → ChangesFile a b name P → ChangesFile a b name Q
changes_weaker None b name P Q weaker p = p
changes_weaker (Some a) None name P Q weaker p = p
changes_weaker (Some a) (Some b) name P Q weaker p = (weaker (a name) (b name) p.0, p.1)

grows_on : (a b c : Outside) (name x y : List ℕ) → Grows a b name x → Grows b c name y → Grows a c name (x ++ y)
grows_on a b c name x y p q = changes_on a.written b.written c.written name (Gains x) (Gains y) (Gains (x ++ y)) (λ o m n. gains_on o m n x y) p q

pub grows_appended : (a b : Outside) (name x : List ℕ) → Writes a b name (Appended x) → Grows a b name x
grows_appended a b name x p = changes_weaker a.written b.written name (Appended x) (Gains x) (λ old new same. inl same) p

-- Pieces.

part_by : (a b : Option Files) (name piece : List ℕ) → ChangesFile a b name (AppendedPart piece) → (n : ℕ) × ChangesFile a b name (Gains (take n piece))
part_by None b name piece p = (0, p)
part_by (Some a) None name piece p = absurd p
part_by (Some a) (Some b) name piece p = let gained = gains_part (a name) (b name) piece p.0 in (gained.0, (gained.1, p.1))

-- a failed piece of what is held and added
pub part_of : (a b : Outside) (name piece rest held bytes : List ℕ) → piece ++ rest ≡ held ++ bytes → Writes a b name (AppendedPart piece) → PassesPart a b name held bytes
part_of a b name piece rest held bytes whole p =
    let gained = part_by a.written b.written name piece p in
    record {
      added = take gained.0 piece;
      rest = drop gained.0 piece ++ rest;
      grows = gained.1;
      whole = sym (append_assoc (take gained.0 piece) (drop gained.0 piece) rest) ∙ ap (λ t. t ++ rest) (take-append-drop gained.0 piece) ∙ whole;
    }

joined : (a a' held held' held'' x y : List ℕ) → a ++ held' ≡ held ++ x → a' ++ held'' ≡ held' ++ y → (a ++ a') ++ held'' ≡ held ++ (x ++ y)
joined a a' held held' held'' x y p q =
    append_assoc a a' held'' ∙ ap (λ t. a ++ t) q ∙ sym (append_assoc a held' y) ∙ ap (λ t. t ++ y) p ∙ append_assoc held x y

first : (x rest text : List ℕ) → x ++ rest ≡ text → x ≡ take (length x) text
first x rest text whole = rw (← whole) (sym (take-append_seam x rest))

pub passes_none : (a : Outside) (name held : List ℕ) → Passes a a name held held []
passes_none a name held = record { added = []; grows = none_changes a.written name; whole = sym (append-nil held) }

-- what was put is held before a piece is written
pub passes_put : (a b : Outside) (name held put held' bytes : List ℕ) → put ≡ held ++ bytes → Passes a b name put held' [] → Passes a b name held held' bytes
passes_put a b name held put held' bytes is p = record { added = p.added; grows = p.grows; whole = p.whole ∙ append-nil put ∙ is }

pub part_put : (a b : Outside) (name held put bytes : List ℕ) → put ≡ held ++ bytes → PassesPart a b name put [] → PassesPart a b name held bytes
part_put a b name held put bytes is p = record { added = p.added; rest = p.rest; grows = p.grows; whole = p.whole ∙ append-nil put ∙ is }

-- one text after another
pub passes_on : (a b c : Outside) (name held held' held'' x y : List ℕ) → Passes a b name held held' x → Passes b c name held' held'' y → Passes a c name held held'' (x ++ y)
passes_on a b c name held held' held'' x y p q = record {
  added = p.added ++ q.added;
  grows = grows_on a b c name p.added q.added p.grows q.grows;
  whole = joined p.added q.added held held' held'' x y p.whole q.whole;
}

-- a failure after a text
pub part_on : (a b c : Outside) (name held held' x y : List ℕ) → Passes a b name held held' x → PassesPart b c name held' y → PassesPart a c name held (x ++ y)
part_on a b c name held held' x y p q = record {
  added = p.added ++ q.added;
  rest = q.rest;
  grows = grows_on a b c name p.added q.added p.grows q.grows;
  whole = joined p.added q.added held held' q.rest x y p.whole q.whole;
}

-- a failure before a text
pub part_more : (a b : Outside) (name held x y : List ℕ) → PassesPart a b name held x → PassesPart a b name held (x ++ y)
part_more a b name held x y p = record {
  added = p.added;
  rest = p.rest ++ y;
  grows = p.grows;
  whole = sym (append_assoc p.added p.rest y) ∙ ap (λ t. t ++ y) p.whole ∙ append_assoc held x y;
}

-- A whole file.

from_start : (a b c : Outside) (name x : List ℕ) → Writes a b name Started → Grows b c name x → Writes a c name (Becomes x)
from_start a b c name x p q = changes_on a.written b.written c.written name Started (Gains x) (Becomes x) (λ o m n started gains. gains_all m n x started gains) p q

-- the whole text, from the start of the file to the last piece
pub becomes : (a b c d : Outside) (name held text : List ℕ) → Writes a b name Started → Passes b c name [] held text → Grows c d name held → Writes a d name (Becomes text)
becomes a b c d name held text starts p last =
    let Is : List ℕ → Type 0 = λ x. Writes a d name (Becomes x) in
    subst Is p.whole (from_start a b d name (p.added ++ held) starts (grows_on b c d name p.added held p.grows last))

-- a failure after the start
pub becomes_part : (a b c : Outside) (name text : List ℕ) → Writes a b name Started → PassesPart b c name [] text → Writes a c name (BecomesPart text)
becomes_part a b c name text starts p =
    changes_weaker a.written c.written name (Becomes p.added) (BecomesPart text) (λ old new same. inr (length p.added, same ∙ ap (λ (t : List ℕ). Some t) (first p.added p.rest text p.whole))) (from_start a b c name p.added starts p.grows)

-- a failure of the start
pub not_started : (a b : Outside) (name text : List ℕ) → Writes a b name StartedPart → Writes a b name (BecomesPart text)
not_started a b name text p = changes_weaker a.written b.written name StartedPart (BecomesPart text) (was_or_empty text) p

-- Lines.

-- the lines of a list, one more
pub lines_more : {X : Type 0} (f : X → List ℕ) (xs : List X) (i : ℕ) (d : X) → i < length xs → flat_map f (take (i + 1) xs) ≡ flat_map f (take i xs) ++ f (get_or xs i d)
lines_more f xs i d within = rw (take_more xs i d within) (flat_map-append f (take i xs) (get_or xs i d ∷ []) ∙ ap (λ t. flat_map f (take i xs) ++ t) (append-nil (f (get_or xs i d))))

pub passes_more : {X : Type 0} (f : X → List ℕ) (xs : List X) (i : ℕ) (d : X) (a b c : Outside) (name held held' held'' line : List ℕ) → i < length xs → line ≡ f (get_or xs i d) → Passes a b name held held' (flat_map f (take i xs)) → Passes b c name held' held'' line → Passes a c name held held'' (flat_map f (take (i + 1) xs))
passes_more f xs i d a b c name held held' held'' line within same p q =
    rw (lines_more f xs i d within) (passes_on a b c name held held' held'' _ _ p (rw (← same) q))

-- a failure within the lines of a list
pub part_within : {X : Type 0} (f : X → List ℕ) (xs : List X) (i : ℕ) (d : X) (a b c : Outside) (name held held' line : List ℕ) → i < length xs → line ≡ f (get_or xs i d) → Passes a b name held held' (flat_map f (take i xs)) → PassesPart b c name held' line → PassesPart a c name held (flat_map f xs)
part_within f xs i d a b c name held held' line within same p q =
    let split : flat_map f (take (i + 1) xs) ++ flat_map f (drop (i + 1) xs) ≡ flat_map f xs = sym (flat_map-append f (take (i + 1) xs) (drop (i + 1) xs)) ∙ ap (flat_map f) (take-append-drop (i + 1) xs) in
    let so_far : PassesPart a c name held (flat_map f (take (i + 1) xs)) = rw (lines_more f xs i d within) (part_on a b c name held held' _ _ p (rw (← same) q)) in
    rw (← split) (part_more a c name held _ _ so_far)

-- one line more of those that come one by one
pub passes_push : {X : Type 0} (f : X → List ℕ) (done : List X) (x : X) (a b c : Outside) (name held held' held'' : List ℕ) → Passes a b name held held' (flat_map f done) → Passes b c name held' held'' (f x) → Passes a c name held held'' (flat_map f (done ++ x ∷ []))
passes_push f done x a b c name held held' held'' p q =
    let more : flat_map f (done ++ x ∷ []) ≡ flat_map f done ++ f x = flat_map-append f done (x ∷ []) ∙ ap (λ t. flat_map f done ++ t) (append-nil (f x)) in
    rw more (passes_on a b c name held held' held'' _ _ p q)

-- a failure within them
pub part_push : {X : Type 0} (f : X → List ℕ) (done rest all : List X) (x : X) (a b c : Outside) (name held held' : List ℕ) → (done ++ x ∷ []) ++ rest ≡ all → Passes a b name held held' (flat_map f done) → PassesPart b c name held' (f x) → PassesPart a c name held (flat_map f all)
part_push f done rest all x a b c name held held' whole p q =
    let split : flat_map f done ++ (f x ++ flat_map f rest) ≡ flat_map f all = sym (flat_map-append f done (x ∷ rest)) ∙ ap (flat_map f) (sym (append_assoc done (x ∷ []) rest) ∙ whole) in
    rw (← split) (part_on a b c name held held' _ _ p (part_more b c name held' _ _ q))

-- what has come, and what is left, where one more comes
pub come_more : {X : Type 0} (done rest left all : List X) (x : X) → done ++ rest ≡ all → rest ≡ x ∷ left → (done ++ x ∷ []) ++ left ≡ all
come_more done rest left all x whole first = append_assoc done (x ∷ []) left ∙ ap (λ t. done ++ t) (sym first) ∙ whole

pub on_err : {T E P : Type 0} (r : Result T E) → P → OnErr r P
on_err (Ok x) p = tt
on_err (Err e) p = p
