use Rattle.std.proofs.Common.{refl, arith}
use Rattle.std.proofs.lemmas.Result.{err_from_is_err_and}
use Rattle.xp_preempt.proofs.Consulting.{gated_none}
use Rattle.domain_destroy.proofs.Ending.{gated_both, gated_ends, gated_lists, gated_stops, phase_frames}
use Rattle.domain_destroy.proofs.Phasing.{goes_on_seen}
use Rattle.domain_destroy.proofs.destroying.destroy.Goals as goal

pub returns-in_err-start-clause-destroyed : goal.returns-in_err-start-clause-destroyed
returns-in_err-start-clause-destroyed g c =
    let answer = err_from_is_err_and c.from_residual.result c.from_residual.ensures.1 in
    rw (answer.1, answer.2)
    (gated_stops (c.in_err-start.ensures.come _ _ c.requires.come)
    (gated_none c.in_err-start.ensures.undue c.in_err-start.ensures.went))

pub returns-in_err-start-clause-room : goal.returns-in_err-start-clause-room
returns-in_err-start-clause-room g c =
    let more0 = goes_on_seen c.in_err-start.ensures.went.course in
    let room = c.requires.room in
    omega (arith, more0, room)

pub returns-in_err-stop_all-clause-destroyed : goal.returns-in_err-stop_all-clause-destroyed
returns-in_err-stop_all-clause-destroyed g c =
    let answer = err_from_is_err_and c.from_residual-in_err-stop_all.result c.from_residual-in_err-stop_all.ensures.1 in
    rw (answer.1, answer.2)
    (gated_stops (c.in_err-stop_all.ensures.come _ _ (c.in_ok-start.ensures.come _ _ c.requires.come))
    (gated_both (gated_none refl c.in_ok-start.ensures.went) (gated_none c.in_err-stop_all.ensures.undue c.in_err-stop_all.ensures.went)))

pub returns-in_err-stop_all-clause-room : goal.returns-in_err-stop_all-clause-room
returns-in_err-stop_all-clause-room g c =
    let more0 = goes_on_seen c.in_ok-start.ensures.went.course in
    let more1 = goes_on_seen c.in_err-stop_all.ensures.went.course in
    let room = c.requires.room in
    omega (arith, more0, more1, room)

pub returns-in_err-empty_all-clause-destroyed : goal.returns-in_err-empty_all-clause-destroyed
returns-in_err-empty_all-clause-destroyed g c =
    let answer = err_from_is_err_and c.from_residual-in_err-empty_all.result c.from_residual-in_err-empty_all.ensures.1 in
    rw (answer.1, answer.2)
    (gated_stops (c.in_err-empty_all.ensures.come _ _ (c.in_ok-stop_all.ensures.come _ _ (c.in_ok-start.ensures.come _ _ c.requires.come)))
    (gated_both (gated_both (gated_none refl c.in_ok-start.ensures.went) (gated_none refl c.in_ok-stop_all.ensures.went)) c.in_err-empty_all.ensures.went))

pub returns-in_err-empty_all-clause-room : goal.returns-in_err-empty_all-clause-room
returns-in_err-empty_all-clause-room g c =
    let more0 = goes_on_seen c.in_ok-start.ensures.went.course in
    let more1 = goes_on_seen c.in_ok-stop_all.ensures.went.course in
    let more2 = goes_on_seen c.in_err-empty_all.ensures.went.course.course in
    let room = c.requires.room in
    omega (arith, more0, more1, more2, room)

pub returns-in_err-clear_all-clause-destroyed : goal.returns-in_err-clear_all-clause-destroyed
returns-in_err-clear_all-clause-destroyed g c =
    let answer = err_from_is_err_and c.from_residual-in_err-clear_all.result c.from_residual-in_err-clear_all.ensures.1 in
    rw (answer.1, answer.2)
    (gated_stops (c.in_err-clear_all.ensures.come _ _ (c.in_ok-empty_all.ensures.come _ _ (c.in_ok-stop_all.ensures.come _ _ (c.in_ok-start.ensures.come _ _ c.requires.come))))
    (gated_both (gated_both (gated_both (gated_none refl c.in_ok-start.ensures.went) (gated_none refl c.in_ok-stop_all.ensures.went)) c.in_ok-empty_all.ensures.went) c.in_err-clear_all.ensures.went))

pub returns-in_err-clear_all-clause-room : goal.returns-in_err-clear_all-clause-room
returns-in_err-clear_all-clause-room g c =
    let more0 = goes_on_seen c.in_ok-start.ensures.went.course in
    let more1 = goes_on_seen c.in_ok-stop_all.ensures.went.course in
    let more2 = goes_on_seen c.in_ok-empty_all.ensures.went.course.course in
    let more3 = goes_on_seen c.in_err-clear_all.ensures.went.course.course in
    let room = c.requires.room in
    omega (arith, more0, more1, more2, more3, room)

pub returns-in_err-check_all-clause-destroyed : goal.returns-in_err-check_all-clause-destroyed
returns-in_err-check_all-clause-destroyed g c =
    let answer = err_from_is_err_and c.from_residual-in_err-check_all.result c.from_residual-in_err-check_all.ensures.1 in
    rw (answer.1, answer.2)
    (gated_stops (c.in_err-check_all.ensures.come _ _ (c.in_ok-clear_all.ensures.come _ _ (c.in_ok-empty_all.ensures.come _ _ (c.in_ok-stop_all.ensures.come _ _ (c.in_ok-start.ensures.come _ _ c.requires.come)))))
    (gated_both (gated_both (gated_both (gated_both (gated_none refl c.in_ok-start.ensures.went) (gated_none refl c.in_ok-stop_all.ensures.went)) c.in_ok-empty_all.ensures.went) c.in_ok-clear_all.ensures.went) (gated_none c.in_err-check_all.ensures.undue c.in_err-check_all.ensures.went)))

pub returns-in_err-check_all-clause-room : goal.returns-in_err-check_all-clause-room
returns-in_err-check_all-clause-room g c =
    let more0 = goes_on_seen c.in_ok-start.ensures.went.course in
    let more1 = goes_on_seen c.in_ok-stop_all.ensures.went.course in
    let more2 = goes_on_seen c.in_ok-empty_all.ensures.went.course.course in
    let more3 = goes_on_seen c.in_ok-clear_all.ensures.went.course.course in
    let more4 = goes_on_seen c.in_err-check_all.ensures.went.course in
    let room = c.requires.room in
    omega (arith, more0, more1, more2, more3, more4, room)

pub list_all-requires-clause-room : goal.list_all-requires-clause-room
list_all-requires-clause-room g c =
    let more0 = goes_on_seen c.in_ok-start.ensures.went.course in
    let same0 = phase_frames c.in_ok-start.ensures.went in
    let more1 = goes_on_seen c.in_ok-stop_all.ensures.went.course in
    let same1 = phase_frames c.in_ok-stop_all.ensures.went in
    let more2 = goes_on_seen c.in_ok-empty_all.ensures.went.course.course in
    let same2 = phase_frames c.in_ok-empty_all.ensures.went.course in
    let more3 = goes_on_seen c.in_ok-clear_all.ensures.went.course.course in
    let same3 = phase_frames c.in_ok-clear_all.ensures.went.course in
    let more4 = goes_on_seen c.in_ok-check_all.ensures.went.course in
    let same4 = phase_frames c.in_ok-check_all.ensures.went in
    let room = c.requires.room in
    omega (arith, more0, same0, more1, same1, more2, same2, more3, same3, more4, same4, room)

pub returns-in_err-left-clause-destroyed : goal.returns-in_err-left-clause-destroyed
returns-in_err-left-clause-destroyed g c =
    let answer = err_from_is_err_and c.from_residual-in_err-left.result c.from_residual-in_err-left.ensures.1 in
    let stops = c.in_err-left.ensures in
    rw (answer.1, answer.2)
    (gated_lists (gated_both (gated_both (gated_both (gated_both (gated_none refl c.in_ok-start.ensures.went) (gated_none refl c.in_ok-stop_all.ensures.went)) c.in_ok-empty_all.ensures.went) c.in_ok-clear_all.ensures.went) (gated_none refl c.in_ok-check_all.ensures.went))
    stops.undue stops.come stops.went)

pub returns-clause-destroyed : goal.returns-clause-destroyed
returns-clause-destroyed g c =
    let lists = c.in_ok-left.ensures in
    gated_ends (gated_both (gated_both (gated_both (gated_both (gated_none refl c.in_ok-start.ensures.went) (gated_none refl c.in_ok-stop_all.ensures.went)) c.in_ok-empty_all.ensures.went) c.in_ok-clear_all.ensures.went) (gated_none refl c.in_ok-check_all.ensures.went))
    lists.come lists.went c.bury.ensures.moves c.bury.ensures.hand
