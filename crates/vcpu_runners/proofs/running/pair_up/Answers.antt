use Rattle.std.proofs.Common.{◌∙◌, sym, ap, map, rules}
use Rattle.std.specs.Iterator.Adapters.{zip_second}
use Rattle.std.proofs.lemmas.Iterator.{YieldsList-from_zip}
use Rattle.std.proofs.lemmas.Iterator.Adapters.{YieldsList-from_vec}
use Rattle.std.proofs.lemmas.Iterator.Consumers.{YieldsList-at, YieldsList-end}
use Rattle.std.proofs.lemmas.List.{map-id}
use Rattle.std.proofs.lemmas.Slice.Zip.{firsts-zip, seconds-zip}
use Rattle.vcpu_runners.proofs.running.pair_up.Goals as goal

pub returns-clause-passes : goal.returns-clause-passes
returns-clause-passes g c =
    let road = YieldsList-from_zip (YieldsList-at c.zip-pass-items.ensures.first (YieldsList-from_vec {s = c.into_iter.result} c.args.passes.items (search rules) (search rules)))
    (YieldsList-from_vec {s = zip_second c.zip-pass-items.result} c.args.runners.items (search rules) (search rules)) in
    let end = YieldsList-end (YieldsList-at c.into_iter-pass-iterator.ensures.into_iter_gives road) c.pairs.yielded c.pairs.pass-iterator c.pairs.yielded_by c.next.result c.next.new.self c.in-None.is c.next.ensures.steps in
    c.pairs.invariant.passes ∙ ap (map (λ p. p.0)) (sym (map-id c.pairs.yielded) ∙ end.0) ∙ firsts-zip c.args.passes.items c.args.runners.items c.requires

pub returns-clause-runners : goal.returns-clause-runners
returns-clause-runners g c =
    let road = YieldsList-from_zip (YieldsList-at c.zip-pass-items.ensures.first (YieldsList-from_vec {s = c.into_iter.result} c.args.passes.items (search rules) (search rules)))
    (YieldsList-from_vec {s = zip_second c.zip-pass-items.result} c.args.runners.items (search rules) (search rules)) in
    let end = YieldsList-end (YieldsList-at c.into_iter-pass-iterator.ensures.into_iter_gives road) c.pairs.yielded c.pairs.pass-iterator c.pairs.yielded_by c.next.result c.next.new.self c.in-None.is c.next.ensures.steps in
    c.pairs.invariant.runners ∙ ap (map (λ p. p.1)) (sym (map-id c.pairs.yielded) ∙ end.0) ∙ seconds-zip c.args.passes.items c.args.runners.items c.requires
