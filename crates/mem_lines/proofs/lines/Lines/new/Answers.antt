use Rattle.std.proofs.Common.{◌≡◌, ℕ, true, ap, sym, subst, ◌∙◌, List, Vec, Global}
use Rattle.std.specs.List.{fold, list_all}
use Rattle.flex_base.specs.Loaded.{Loaded, part_fits, image_fits}
use Rattle.flex_base.specs.FlatMemory.{image_byte}
use Rattle.mem_lines.specs.Bank.{with_part}
use Rattle.mem_lines.proofs.Laying.{parts_fit, image_laid}
use Rattle.mem_lines.proofs.lines.Lines.new.Goals as goal

pub bank_bytes-requires-clause-fit : goal.bank_bytes-requires-clause-fit
bank_bytes-requires-clause-fit c =
    let ram = c.args.settings.now.ram in
    let inside = c.image.inside in
    let fits = subst (λ (image : Loaded). image_fits ram image ≡ true) (sym c.image.view_is) c.requires.fits in
    subst (λ (parts : List (ℕ × Vec ℕ Global)). list_all (λ part. part_fits ram (part.0, part.1.items)) parts ≡ true) (sym c.deref.ensures.value) (parts_fit ram inside.entry inside.parts.items fits)

pub returns-clause-replay : goal.returns-clause-replay
returns-clause-replay c = λ setup image_is ram_is.
    let inside = c.image.inside in
    let from = λ (a : ℕ). ap (λ (parts : List (ℕ × Vec ℕ Global)). fold (λ old part. with_part a old (part.0, part.1.items)) 0 parts) c.deref.ensures.value in
    record {
      ram = sym ram_is;
      each = λ a here. c.in_ok-bytes.ensures.each a here.ram here.bank ∙ from a ∙ sym (image_laid inside.entry a inside.parts.items) ∙ ap (λ (image : Loaded). image_byte image a) (c.image.view_is ∙ sym image_is);
      reservations = λ h below. c.none.ensures h;
    }
