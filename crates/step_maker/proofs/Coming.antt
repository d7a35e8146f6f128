-- Steps of one port, one behind the other.
use Rattle.std.proofs.Common.{◌≡◌, ℕ, List, [], ◌∷◌, ◌++◌, Option, refl, sym, ap, ◌∙◌, subst, ◌<◌}
use Rattle.xp_words.specs.declared.place.Place.{Place}
use Rattle.xp_board.specs.declared.step.Act.{Act}
use Rattle.xp_board.specs.declared.step.Mark.{Mark}
use Rattle.xp_board.specs.declared.step.StepKind.{StepKind}
use Rattle.xp_board.specs.Told.{PortValue, Post}
use Rattle.step_maker.specs.Moves.{Moves, Moment, MovesBy, Ran, Came, Met}

pub ran_more : (v u w : PortValue) (xs ys : List Moment) → Ran v xs u → Ran u ys w → Ran v (ys ++ xs) w
ran_more v u w xs [] a b = subst (Ran v xs) (sym b) a
ran_more v u w xs (y ∷ ys) a b = (b.0, ran_more v u b.0 xs ys a b.1, b.2)

pub ran_post : (v w : PortValue) (xs : List Moment) → Ran v xs w → w.post ≡ v.post
ran_post v w [] a = ap (λ (x : PortValue). x.post) a
ran_post v w (y ∷ ys) a = ap (λ (x : PortValue). x.post) a.2.moves.to ∙ ran_post v a.0 ys a.1

pub came_self : (v : PortValue) → Came v v
unfolding Came
came_self v = ([], refl)

pub came_trans : (v u w : PortValue) → Came v u → Came u w → Came v w
unfolding Came
came_trans v u w a b = (b.0 ++ a.0, ran_more v u w a.0 b.0 a.1 b.1)

pub came_post : (v w : PortValue) → Came v w → w.post ≡ v.post
unfolding Came
came_post v w a = ran_post v w a.0 a.1

-- ---- one step
unfoldable pub moment_of : PortValue → Place → Act → StepKind → Option Mark → ℕ → Moment
moment_of v p a kind mark found = record { place = p; act = a; kind = kind; mark = mark; found = found; hand = v.holdings }

pub moves_by : (v w : PortValue) (p : Place) (a : Act) (kind : StepKind) (mark : Option Mark) (found : ℕ) → Moves v w p a kind mark found → MovesBy v w (moment_of v p a kind mark found)
unfolding moment_of
moves_by v w p a kind mark found m = record { moves = m; hand = refl }

pub moves_ran : (v w : PortValue) (p : Place) (a : Act) (kind : StepKind) (mark : Option Mark) (found : ℕ) → Moves v w p a kind mark found → Ran v (moment_of v p a kind mark found ∷ []) w
moves_ran v w p a kind mark found m = (v, refl, moves_by v w p a kind mark found m)

pub moves_came : (v w : PortValue) (p : Place) (a : Act) (kind : StepKind) (mark : Option Mark) (found : ℕ) → Moves v w p a kind mark found → Came v w
unfolding Came
moves_came v w p a kind mark found m = (moment_of v p a kind mark found ∷ [], moves_ran v w p a kind mark found m)

pub moves_met : (v w : PortValue) (p : Place) (a : Act) (kind : StepKind) (mark : Option Mark) (found : ℕ) → Moves v w p a kind mark found → Met v w (moment_of v p a kind mark found)
moves_met v w p a kind mark found m =
    record { from = v; to = w; before = came_self v; moved = moves_by v w p a kind mark found m; after = came_self w }

-- ---- one of the steps
pub met_before : (v u w : PortValue) (m : Moment) → Met v u m → Came u w → Met v w m
met_before v u w m a b = record { from = a.from; to = a.to; before = a.before; moved = a.moved; after = came_trans a.to u w a.after b }

pub met_after : (v u w : PortValue) (m : Moment) → Came v u → Met u w m → Met v w m
met_after v u w m a b = record { from = b.from; to = b.to; before = came_trans v u b.from a b.before; moved = b.moved; after = b.after }

pub ruleset coming = (came_self, came_trans, came_post, moves_came, met_before, met_after)

-- the machine stays, and a frame is still one of its own
pub same_machine : (v w : PortValue) → Came v w → w.post.machine ≡ v.post.machine
same_machine v w came = ap (λ (q : Post). q.machine) (came_post v w came)

pub moved_inside : {v w : PortValue} {p : Place} {a : Act} {kind : StepKind} {mark : Option Mark} {found f : ℕ} → Moves v w p a kind mark found → f < v.post.machine.frames → f < w.post.machine.frames
moved_inside {v} {w} {p} {a} {kind} {mark} {found} {f} moves low = subst (λ (q : Post). f < q.machine.frames) (sym (came_post v w (moves_came v w p a kind mark found moves))) low
