-- The clock never goes back. So where it stands below its last value, no step before found it there.
use Rattle.std.proofs.Common.{◌≡◌, ℕ, ◌<◌, ◌≤◌, true, List, [], ◌∷◌, Option, sym, ap, ◌∙◌, subst, arith}
use Rattle.xp_words.specs.declared.place.Place.{Place}
use Rattle.xp_words.specs.declared.place.Place.TheVariants.{Cell, Clock, Kind, Life, M2p, Map, Pages, Priv, Refs, Vcpu}
use Rattle.xp_board.specs.Readings.{last_clock}
use Rattle.xp_board.specs.Told.{PortValue, is_telling, told_word}
use Rattle.xp_board.specs.declared.step.Act.{Act}
use Rattle.xp_board.specs.declared.step.Mark.{Mark}
use Rattle.xp_board.specs.declared.step.StepKind.{StepKind}
use Rattle.step_maker.specs.Moves.{Came, Moment, Moves, Ran}
use Rattle.step_maker.proofs.Telling.{came_telling, moves_telling, ran_telling, told_elsewhere, told_here, told_there}
use Rattle.course_laws.specs.Courses.{ClockGoesOn}
use Rattle.turn_measures.proofs.LeavingCalls.{moves_up}

-- one step
stays_up : (v w : PortValue) → told_word w Clock ≡ told_word v Clock → told_word v Clock ≤ told_word w Clock
stays_up v w same = omega arith

step_up : (v w : PortValue) (p : Place) (a : Act) (kind : StepKind) (mark : Option Mark) (found : ℕ) → Moves v w p a kind mark found → is_telling v ≡ true → told_word v Clock ≤ told_word w Clock
step_up v w Clock a kind mark found m is =
    let here = told_here v w Clock a kind mark found m is in
    let there = told_there v w Clock a kind mark found m is in
    let up = moves_up v w a kind mark found m in
    subst (λ x. x ≤ told_word w Clock) (sym there) (subst (λ x. found ≤ x) (sym here) up)
step_up v w (Pages d) a kind mark found m is = stays_up v w (told_elsewhere v w (Pages d) a kind mark found m Clock (λ e. cc))
step_up v w (Life d) a kind mark found m is = stays_up v w (told_elsewhere v w (Life d) a kind mark found m Clock (λ e. cc))
step_up v w (Vcpu s k) a kind mark found m is = stays_up v w (told_elsewhere v w (Vcpu s k) a kind mark found m Clock (λ e. cc))
step_up v w (Refs f) a kind mark found m is = stays_up v w (told_elsewhere v w (Refs f) a kind mark found m Clock (λ e. cc))
step_up v w (Kind f) a kind mark found m is = stays_up v w (told_elsewhere v w (Kind f) a kind mark found m Clock (λ e. cc))
step_up v w (M2p f) a kind mark found m is = stays_up v w (told_elsewhere v w (M2p f) a kind mark found m Clock (λ e. cc))
step_up v w (Cell f i) a kind mark found m is = stays_up v w (told_elsewhere v w (Cell f i) a kind mark found m Clock (λ e. cc))
step_up v w (Map k) a kind mark found m is = stays_up v w (told_elsewhere v w (Map k) a kind mark found m Clock (λ e. cc))
step_up v w (Priv d) a kind mark found m is = stays_up v w (told_elsewhere v w (Priv d) a kind mark found m Clock (λ e. cc))

ran_up : (v w : PortValue) (ms : List Moment) → Ran v ms w → is_telling v ≡ true → told_word v Clock ≤ told_word w Clock
ran_up v w [] ran is = stays_up v w (ap (λ (y : PortValue). told_word y Clock) ran)
ran_up v w (m ∷ ms) ran is =
    let u = ran.0 in
    let before = ran_up v u ms ran.1 is in
    let after = step_up u w m.place m.act m.kind m.mark m.found ran.2.moves (ran_telling v u ms ran.1 ∙ is) in
    omega (arith, before, after)

pub came_up : (v w : PortValue) → Came v w → is_telling v ≡ true → told_word v Clock ≤ told_word w Clock
unfolding Came
came_up v w a is = ran_up v w a.0 a.1 is

-- all steps between
pub clock_was_on : (v w : PortValue) → is_telling v ≡ true → told_word w Clock < last_clock → ClockGoesOn v w
clock_was_on v w is below m met at last =
    let telling : is_telling met.from ≡ true = came_telling v met.from met.before ∙ is in
    let moves = subst (λ q. Moves met.from met.to q m.act m.kind m.mark m.found) at met.moved.moves in
    let there = told_there met.from met.to Clock m.act m.kind m.mark m.found moves telling in
    let first = step_up met.from met.to Clock m.act m.kind m.mark m.found moves telling in
    let rest = came_up met.to w met.after (moves_telling met.from met.to Clock m.act m.kind m.mark m.found moves ∙ telling) in
    omega (arith, there, first, rest, below, last)
