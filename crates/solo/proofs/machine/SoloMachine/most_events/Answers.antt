-- The product is bounded.
use Rattle.std.proofs.Common.{◌*◌, ap, ◌∙◌, arith}
use Rattle.flex_base.specs.declared.settings.Settings.{Settings}
use Rattle.solo.proofs.machine.SoloMachine.most_events.Goals as goal

pub overflow_mul-result : goal.overflow_mul-result
overflow_mul-result c =
    let at = c.requires.2 in
    let product = ap (λ n. n * c.settings-settings.result.budget) c.from-harts.ensures ∙ ap (λ (x : Settings). x.harts * x.budget) (c.settings-settings.ensures ∙ at.settings_is) in
    omega (arith, product, at.ends)

pub overflow_mul-result-2 : goal.overflow_mul-result-2
overflow_mul-result-2 c =
    let at = c.requires.2 in
    let product = ap (λ n. n * c.settings-settings.result.budget) c.from-harts.ensures ∙ ap (λ (x : Settings). x.harts * x.budget) (c.settings-settings.ensures ∙ at.settings_is) in
    omega (arith, product, at.ends)

pub overflow_add-result : goal.overflow_add-result
overflow_add-result c =
    let at = c.requires.2 in
    let product = ap (λ n. n * c.settings-settings.result.budget) c.from-harts.ensures ∙ ap (λ (x : Settings). x.harts * x.budget) (c.settings-settings.ensures ∙ at.settings_is) in
    let harts = ap (λ (x : Settings). x.harts) (c.settings-settings.ensures ∙ at.settings_is) in
    omega (arith, product, harts, c.from-harts.ensures, at.ends, at.few)

pub returns : goal.returns
returns c = λ setup u at.
    let product = ap (λ (x : Settings). x.harts * x.budget) (c.settings-settings.ensures ∙ at.settings_is) in
    let harts = ap (λ (x : Settings). x.harts) (c.settings-settings.ensures ∙ at.settings_is) in
    grind (arith, product, harts)
