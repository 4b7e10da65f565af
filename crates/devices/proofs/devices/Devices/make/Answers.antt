use Rattle.std.proofs.Common.{ap, sym, subst, ◌∙◌, length}
use Rattle.flex_base.specs.declared.access.Access.{Access}
use Rattle.flex_base.specs.declared.access.Access.TheVariants as acc
use Rattle.flex_base.specs.declared.access.Reply.{Reply}
use Rattle.flex_base.specs.FlatMemory.{reply_with}
use Rattle.flex_base.specs.Forms.{HasForm, IsPlaced}
use Rattle.devices.proofs.Forms.{read_form, zero_form}
use Rattle.flex_base.proofs.DeviceLaws.{harts-step, harts_in}
use Rattle.devices.specs.View.{DevicesView, kept_after}
use Rattle.devices.proofs.devices.Devices.make.Goals as goal

pub returns-in-Wait-clause-same : goal.returns-in-Wait-clause-same
returns-in-Wait-clause-same c =
    let was = c.self-in-Wait.view_is in
    record {
      harts = ap harts_in c.wait.ensures
          ∙ harts-step c.self-in-Wait.inside.state c.args.hart (acc.Wait c.in-Wait.mie)
          ∙ ap (λ (d : DevicesView). length d.state.harts) was;
      room = ap (λ (d : DevicesView). d.console.room) was;
      keeps = ap (λ (d : DevicesView). d.console.keeps) was;
    }

pub returns-in-DevWrite-clause-kept : goal.returns-in-DevWrite-clause-kept
returns-in-DevWrite-clause-kept c =
    ap (λ (d : DevicesView). d.console.sent) c.self-in-DevWrite.view_is
    ∙ c.send.ensures.kept c.in-DevWrite.width
    ∙ ap (kept_after c.args.self.now) (sym c.in-DevWrite.is)

pub returns-in-DevRead-clause-form : goal.returns-in-DevRead-clause-form
returns-in-DevRead-clause-form c = λ harts ram placed.
    let At : Access → Type 0 = λ access. IsPlaced harts ram access → HasForm access (reply_with c.read-value.result) in
    let here : At (acc.DevRead c.in-DevRead.address c.in-DevRead.width) = λ at.
    read_form harts ram c.in-DevRead.address c.in-DevRead.width c.read-value.result at c.read-value.type_inv c.read-value.ensures.narrow c.read-value.ensures.byte in
    let Of : Reply → Type 0 = λ reply. HasForm c.args.acc.now reply in
    subst Of (sym c.with_value-in-DevRead.ensures) (subst At (sym c.in-DevRead.is) here placed)

pub returns-in_default-clause-form : goal.returns-in_default-clause-form
returns-in_default-clause-form c = λ harts ram placed.
    let Of : Reply → Type 0 = λ reply. HasForm c.args.acc.now reply in
    subst Of (sym c.with_value-in_default.ensures) (zero_form c.args.acc.now)
