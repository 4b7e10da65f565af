-- The class of the end to which a story leads.
use Rattle.std.specs.Prelude.{◌≡◌, ℕ, ◌⊎◌}
use Rattle.flex_base.specs.StoryTree.{Story, Says, Closes, StaysOver, Parks}
use Rattle.flex_base.specs.declared.access.Access.{Access}
use Rattle.flex_base.specs.declared.access.Access.TheVariants as acc
use Rattle.flex_base.specs.declared.access.Reply.{Reply}
use Rattle.flex_base.specs.declared.class.Class.{Class}
use Rattle.flex_base.specs.declared.class.Class.TheVariants as class

-- an instruction that makes an access of a device register ends as such
abbrev pub class_after : Class → Access → Class
class_after c (acc.DevRead address width) = class.Device
class_after c (acc.DevWrite address width value) = class.Device
class_after c other = c

-- each end that a story leads to, whatever the replies, is a trap, or of class device where an access of a device register
-- comes before it, or else of this class
abbrev pub EndsIn : Class → Story → Type 0
EndsIn c (Says access next) = (reply : Reply) → EndsIn (class_after c access) (next reply)
EndsIn c (Closes part after) = (part.class ≡ c) ⊎ (part.class ≡ class.Trap)
EndsIn c StaysOver = Unit {0}
EndsIn c (Parks wakes) = (lines : ℕ) → EndsIn c (wakes lines)
