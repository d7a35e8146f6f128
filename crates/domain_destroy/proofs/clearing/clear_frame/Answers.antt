use Rattle.std.proofs.Common.{◌≡◌, ◌≢◌, Some, rules, refl}
use Rattle.std.proofs.lemmas.Result.{err_from_is_err_and}
use Rattle.xp_preempt.proofs.Consulting.{gated_as, gated_none}
use Rattle.xp_board.specs.Readings.{owner_of}
use Rattle.domain_destroy.proofs.Cleared.{cleared_stays, looks_came, marked_went, marks_came, other_more, other_went, unmarked_come, unmarked_past, unmarked_went, whole_came}
use Rattle.domain_destroy.proofs.clearing.clear_frame.Goals as goal

-- ---- another domain's
pub returns-then-ne-clause-stays : goal.returns-then-ne-clause-stays
returns-then-ne-clause-stays g c since =
    let k = c.look_kind-found.ensures in
    let r = c.look_refs.ensures in
    cleared_stays (g.P.Port.value c.args.port.now) (g.P.Port.value c.look_refs.new.port) c.args.domain c.args.frame since (looks_came c.args.domain k.moves r.moves k.hand r.hand c.requires.rests c.requires.clear)

pub returns-then-ne-clause-come : goal.returns-then-ne-clause-come
returns-then-ne-clause-come g c =
    let k = c.look_kind-found.ensures in
    let r = c.look_refs.ensures in
    let off : owner_of c.look_refs.result ≢ Some c.args.domain = search rules in
    other_more c.args.domain k.moves r.moves k.hand r.hand c.requires.rests c.requires.clear off

pub returns-then-ne-clause-went : goal.returns-then-ne-clause-went
returns-then-ne-clause-went g c =
    let k = c.look_kind-found.ensures in
    let r = c.look_refs.ensures in
    let off : owner_of c.look_refs.result ≢ Some c.args.domain = search rules in
    gated_none refl (other_went c.args.domain k.moves r.moves k.hand r.hand c.requires.rests c.requires.clear off)

-- ---- a mark of its kind word stops it
pub returns-in_err-take_marks-clause-stays : goal.returns-in_err-take_marks-clause-stays
returns-in_err-take_marks-clause-stays g c since =
    let k = c.look_kind-found.ensures in
    let r = c.look_refs.ensures in
    let owned : owner_of c.look_refs.result ≡ Some c.args.domain = search rules in
    cleared_stays (g.P.Port.value c.args.port.now) (g.P.Port.value c.take_marks.new.port) c.args.domain c.args.frame since
    (marks_came c.args.domain k.moves r.moves k.hand r.hand c.requires.rests c.requires.clear owned c.requires.frame c.requires.come.1.foreign c.take_marks.ensures.course)

pub returns-in_err-take_marks-clause-went : goal.returns-in_err-take_marks-clause-went
returns-in_err-take_marks-clause-went g c =
    let k = c.look_kind-found.ensures in
    let r = c.look_refs.ensures in
    let owned : owner_of c.look_refs.result ≡ Some c.args.domain = search rules in
    let answer = err_from_is_err_and c.from_residual.result c.from_residual.ensures.1 in
    rw (answer.1, answer.2)
    (gated_as refl (λ answers took. marked_went c.args.domain k.moves r.moves k.hand r.hand c.requires.rests c.requires.clear owned c.requires.frame c.requires.come.1.foreign took) c.in_err-take_marks.ensures)

-- ---- they are off
pub returns-clause-stays : goal.returns-clause-stays
returns-clause-stays g c since =
    let k = c.look_kind-found.ensures in
    let r = c.look_refs.ensures in
    let owned : owner_of c.look_refs.result ≡ Some c.args.domain = search rules in
    cleared_stays (g.P.Port.value c.args.port.now) (g.P.Port.value c.give_mark.new.port) c.args.domain c.args.frame since
    (whole_came c.args.domain k.moves r.moves k.hand r.hand c.requires.rests c.requires.clear owned c.requires.frame c.requires.come.1.foreign c.in_ok-take_marks.ensures.course c.give_mark.ensures.went)

pub returns-clause-come : goal.returns-clause-come
returns-clause-come g c =
    let k = c.look_kind-found.ensures in
    let r = c.look_refs.ensures in
    let owned : owner_of c.look_refs.result ≡ Some c.args.domain = search rules in
    unmarked_come c.args.domain k.moves r.moves k.hand r.hand c.requires.rests c.requires.clear owned c.requires.frame c.requires.come.1.foreign c.in_ok-take_marks.ensures.course c.give_mark.ensures.went

pub returns-clause-went : goal.returns-clause-went
returns-clause-went g c =
    let k = c.look_kind-found.ensures in
    let r = c.look_refs.ensures in
    let owned : owner_of c.look_refs.result ≡ Some c.args.domain = search rules in
    gated_as c.give_mark.ensures.undue
    (λ answers took. unmarked_went c.args.domain k.moves r.moves k.hand r.hand c.requires.rests c.requires.clear owned c.requires.frame c.requires.come.1.foreign took c.give_mark.ensures.went) c.in_ok-take_marks.ensures

pub returns-clause-passed : goal.returns-clause-passed
returns-clause-passed g c =
    let k = c.look_kind-found.ensures in
    let r = c.look_refs.ensures in
    let owned : owner_of c.look_refs.result ≡ Some c.args.domain = search rules in
    unmarked_past c.args.domain k.moves r.moves k.hand r.hand c.requires.rests c.requires.clear owned c.requires.frame c.requires.come.1.foreign c.in_ok-take_marks.ensures.course c.give_mark.ensures.went
