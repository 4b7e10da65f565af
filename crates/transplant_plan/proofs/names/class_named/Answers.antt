use Rattle.std.proofs.Common.{◌∙◌, sym, rules, tests}
use Rattle.std.proofs.lemmas.Iterator.{YieldsList-from_slice}
use Rattle.std.proofs.lemmas.Iterator.Adapters.{option_map_id}
use Rattle.std.proofs.lemmas.Iterator.Consumers.{YieldsList-at, YieldsList-from_copied}
use Rattle.std.proofs.lemmas.Iterator.Search.{find_from_yields_List}
use Rattle.std.specs.Str.{bytes_eq}
use Rattle.transplant_plan.specs.Names.{class_name, class_named, classes}
use Rattle.transplant_plan.proofs.names.class_named.Goals as goal

pub returns : goal.returns
unfolding class_named
returns c =
    let chain = YieldsList-from_copied {ys = classes} (YieldsList-at c.copied.ensures.source (YieldsList-from_slice classes cc)) in
    sym (option_map_id c.find.result) ∙ find_from_yields_List (λ x. bytes_eq (class_name x) c.args.name.now) _ _ c.find.result c.find.ensures.ran chain (λ x b q k. search (rules, tests))
