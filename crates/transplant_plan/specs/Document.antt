-- The document that a plan is printed as.
use Rattle.std.specs.Prelude.{ℕ, pos, List, codes, fold}
use Rattle.std.specs.Ordering.{nat_cmp, match_ordering}
use Rattle.std.specs.Cmp.Lexicographic.{slice_cmp}
use Rattle.toml.specs.Data.{Data, string, integer, table, Members, no_members, member}
use Rattle.flex_base.specs.declared.class.Class.{Class}
use Rattle.flex_base.specs.declared.engine.Engine.{Engine}
use Rattle.transplant_plan.specs.Names.{class_name, engine_name, classes}
use Rattle.transplant_plan.specs.Assignment.{Assignment}

-- the members with a value at a key, in the order of keys
abbrev pub with_member : List ℕ → Data → Members → Members
with_member key value no_members = member key value no_members
with_member key value (member k d rest) =
    match_ordering (slice_cmp nat_cmp key k) (member key value (member k d rest)) (member k value rest) (member k d (with_member key value rest))

-- the members with the engine of a class
abbrev pub with_engine : (Class → Engine) → Members → Class → Members
with_engine engine_of members class = with_member (class_name class) (string (engine_name (engine_of class))) members

-- the engine of each class
unfoldable pub engines_of : (Class → Engine) → Members
engines_of engine_of = fold (with_engine engine_of) no_members classes

-- all keys with their values, where all harts have the engines of hart 0
abbrev pub document_of : Assignment → Members
document_of plan =
    member (codes "banks") (integer (pos plan.banks))
    (member (codes "engine") (table (engines_of (plan.engines 0)))
    (member (codes "kernels") (integer (pos plan.kernels))
    (member (codes "pipes") (integer (pos plan.pipes))
    (member (codes "version") (integer (pos 1)) no_members))))
