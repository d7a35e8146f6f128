use Rattle.std.proofs.Common.{◌≡◌, ◌∙◌, ◌+◌, ◌<◌, [], Err, IfErr, List, Ok, Result, ap, append-nil, arith, length, refl, rules, subst, sym}
use Rattle.std.proofs.lemmas.Result.{err_from_is_err_and}
use Rattle.xp_words.specs.declared.reply.Stop.{Stop}
use Rattle.xp_words.specs.declared.reply.LogLine.{LogLine}
use Rattle.domain_destroy.specs.Asking.{ServesDestroy, StopsDestroyer}
use Rattle.domain_destroy.specs.Coming.{HasComeTo}
use Rattle.domain_destroy.specs.Course.{GoesOn}
use Rattle.domain_destroy.specs.Destroying.{ListsOn, count_of}
use Rattle.domain_destroy.specs.declared.place.DestroyAt.TheVariants.{Lists}
use Rattle.domain_destroy.proofs.Lines.{come_listed, come_stays, lists_half_free, lists_more, log_longer, stopped_serves, went_serves}
use Rattle.domain_destroy.proofs.Parts.{destroy_came, nothing_serves, serves_destroy_then, stops_destroy_later}
use Rattle.domain_destroy.proofs.listing.list_frames.Goals.{else-branch, then-branch}
use Rattle.domain_destroy.proofs.listing.list_frames.Goals as goal

pub loop-at-init : goal.loop-at-init
loop-at-init g c =
    record {
      hand = refl;
      come = c.requires.come;
      serves = nothing_serves (g.P.Port.value c.args.port.now) c.args.domain _ refl;
      lists = ([], GoesOn.begins, sym (append-nil c.args.log.now.items));
      room = c.requires.room;
      capacity = refl;
    }

pub loop-at-preserved : goal.loop-at-preserved
loop-at-preserved g c =
    let v = g.P.Port.value c.args.port.now in
    let u = g.P.Port.value c.loop-at.port in
    let w = g.P.Port.value c.list_one.new.port in
    let i = c.loop-at.invariant in
    let one = c.in_ok-list_one.ensures.lists in
    let real : c.loop-at.at < u.post.machine.frames = search rules in
    let left : c.if-branch.left ≡ c.loop-at.left + length one.1 = elim c.if-branch.branch [
      | then-branch b ↦ b.left-is ∙ ap (λ k. c.loop-at.left + k) (sym (one.4 ∙ ap count_of b.if-branch.true))
      | else-branch b ↦ b.left-is ∙ (let none = one.4 ∙ ap count_of b.if-branch.false in omega (arith, none))
    ] in
    let come = come_listed u w c.args.domain c.args.op c.loop-at.at one.0 one.2 c.loop-at.left c.loop-at.log.items one.1 one.3 real i.come in
    let lists = lists_more c.args.domain c.args.op v (Lists c.args.at.now c.args.left.now) c.args.log.now.items u w c.loop-at.at c.loop-at.left one.0 c.loop-at.log.items one.2 real i.lists one.1 c.list_one.new.log.items one.3
    one.5 in
    record {
      hand = c.list_one.ensures.hand ∙ i.hand;
      come = subst (λ k. HasComeTo w c.args.domain (Lists (c.loop-at.at + 1) k) c.args.op c.list_one.new.log.items) (sym left)
          (subst (λ (ls : List LogLine). HasComeTo w c.args.domain (Lists (c.loop-at.at + 1) (c.loop-at.left + length one.1)) c.args.op ls) (sym one.5) come);
      serves = serves_destroy_then v u w c.args.domain _ _ i.serves (went_serves u w c.args.domain c.in_ok-list_one.field-0 tt c.in_ok-list_one.ensures.serves);
      lists = subst (λ k. ListsOn c.args.domain c.args.op v (Lists c.args.at.now c.args.left.now) c.args.log.now.items w (Lists (c.loop-at.at + 1) k) c.list_one.new.log.items (Ok tt)) (sym left) lists;
      room =
          (let longer = log_longer c.args.domain c.loop-at.at one.0 c.args.op _ _ c.loop-at.log.items c.list_one.new.log.items one.1 one.3 c.loop-at.log.ok.0 c.list_one.new.log.ok.0 one.5 in
          let same = c.list_one.ensures.capacity in
          let before = i.room in omega (arith, longer, same, before));
      capacity = c.list_one.ensures.capacity ∙ i.capacity;
    }

-- ---- one of them is half free
pub returns-in_err-list_one-clause-come : goal.returns-in_err-list_one-clause-come
returns-in_err-list_one-clause-come g c =
    let u = g.P.Port.value c.loop-at.port in
    let w = g.P.Port.value c.list_one.new.port in
    let one = c.in_err-list_one.ensures.lists in
    subst (λ (ls : List LogLine). HasComeTo w c.args.domain (Lists c.loop-at.at c.loop-at.left) c.args.op ls) (sym one.5)
    (come_stays u w c.args.domain c.args.op c.loop-at.at c.loop-at.left c.loop-at.log.items (destroy_came u w c.args.domain _ c.list_one.ensures.serves) c.loop-at.invariant.come)

pub returns-in_err-list_one-clause-serves : goal.returns-in_err-list_one-clause-serves
returns-in_err-list_one-clause-serves g c =
    let v = g.P.Port.value c.args.port.now in
    let w = g.P.Port.value c.list_one.new.port in
    let answer = err_from_is_err_and c.from_residual.result c.from_residual.ensures.1 in
    subst (λ (r : Result (Unit {0}) Stop). ServesDestroy v w c.args.domain r) (sym (answer.1 ∙ ap Err answer.2))
    (serves_destroy_then v (g.P.Port.value c.loop-at.port) w c.args.domain _ _ c.loop-at.invariant.serves (stopped_serves (g.P.Port.value c.loop-at.port) w c.args.domain c.in_err-list_one.field-0.0 c.in_err-list_one.ensures.serves))

pub returns-in_err-list_one-clause-stops : goal.returns-in_err-list_one-clause-stops
returns-in_err-list_one-clause-stops g c =
    let v = g.P.Port.value c.args.port.now in
    let u = g.P.Port.value c.loop-at.port in
    let w = g.P.Port.value c.list_one.new.port in
    let answer = err_from_is_err_and c.from_residual.result c.from_residual.ensures.1 in
    subst (λ (r : Result (Unit {0}) Stop). IfErr r (λ e. StopsDestroyer v w c.args.domain e)) (sym (answer.1 ∙ ap Err answer.2))
    (stops_destroy_later v u w c.args.domain c.in_err-list_one.field-0.0 c.in_err-list_one.ensures.kinds (destroy_came v u c.args.domain _ c.loop-at.invariant.serves) c.in_err-list_one.ensures.stops)

pub returns-in_err-list_one-clause-lists : goal.returns-in_err-list_one-clause-lists
returns-in_err-list_one-clause-lists g c =
    let v = g.P.Port.value c.args.port.now in
    let u = g.P.Port.value c.loop-at.port in
    let w = g.P.Port.value c.list_one.new.port in
    let one = c.in_err-list_one.ensures.lists in
    let real : c.loop-at.at < u.post.machine.frames = search rules in
    let answer = err_from_is_err_and c.from_residual.result c.from_residual.ensures.1 in
    let half = lists_half_free c.args.domain c.args.op v (Lists c.args.at.now c.args.left.now) c.args.log.now.items u w c.loop-at.at c.loop-at.left one.0 c.loop-at.log.items one.1 real c.loop-at.invariant.lists one.3 one.4 in
    subst (λ (r : Result (Unit {0}) Stop). ListsOn c.args.domain c.args.op v (Lists c.args.at.now c.args.left.now) c.args.log.now.items w (Lists c.loop-at.at c.loop-at.left) c.list_one.new.log.items r)
    (sym (answer.1 ∙ ap Err (answer.2 ∙ one.2)))
    (half.0, half.1, one.5 ∙ half.2)
