-- Where no hart waits unwoken, waking changes nothing.
use Rattle.std.proofs.Common.{◌≡◌, ℕ, Bool, true, false, ◌||◌, List, [], ◌∷◌, map, slice_set, replicate, zero, suc, refl, ap, ◌∙◌}
use Rattle.flex_base.specs.Devices.{hart_start, wakes_hart, wakes_standing, is_unwoken, some_unwoken}
use Rattle.flex_base.specs.declared.hart_device.HartDevice.{HartDevice}
use Rattle.flex_base.specs.declared.hart_device.HartStanding.{HartStanding}
use Rattle.flex_base.specs.declared.hart_device.HartStanding.TheVariants as stand

or_parts : (a b : Bool) → (a || b) ≡ false → (a ≡ false) × (b ≡ false)
or_parts true b e = absurd cc
or_parts false b e = (refl, e)

same_by : (mtime : ℕ) (own : HartDevice) (standing : HartStanding) → is_unwoken standing ≡ false → wakes_standing mtime own standing ≡ standing
same_by mtime own stand.Runs e = refl
same_by mtime own (stand.Waits mie) e = absurd cc
same_by mtime own stand.Woken e = refl
same_by mtime own stand.Spent e = refl

same_hart : (mtime : ℕ) (own : HartDevice) → is_unwoken own.standing ≡ false → wakes_hart mtime own ≡ own
same_hart mtime own e = ap (λ standing. record own { standing = standing }) (same_by mtime own own.standing e)

pub wakes_none : (mtime : ℕ) (harts : List HartDevice) → some_unwoken harts ≡ false → map (wakes_hart mtime) harts ≡ harts
wakes_none mtime [] e = refl
wakes_none mtime (x ∷ xs) e =
    let both = or_parts (is_unwoken x.standing) (some_unwoken xs) e in
    ap (λ y. y ∷ map (wakes_hart mtime) xs) (same_hart mtime x both.0) ∙ ap (λ ys. x ∷ ys) (wakes_none mtime xs both.1)

pub none_at_start : (harts : ℕ) → some_unwoken (replicate harts hart_start) ≡ false
none_at_start zero = refl
none_at_start (suc n) = none_at_start n

-- a hart that doesn't wait is put among harts that don't
pub none_set : (harts : List HartDevice) (h : ℕ) (own : HartDevice) → some_unwoken harts ≡ false → is_unwoken own.standing ≡ false → some_unwoken (slice_set harts h own) ≡ false
none_set [] h own e new = e
none_set (x ∷ xs) zero own e new = ap (λ b. b || some_unwoken xs) new ∙ (or_parts (is_unwoken x.standing) (some_unwoken xs) e).1
none_set (x ∷ xs) (suc h) own e new =
    let both = or_parts (is_unwoken x.standing) (some_unwoken xs) e in
    ap (λ b. b || some_unwoken (slice_set xs h own)) both.0 ∙ none_set xs h own both.1 new
