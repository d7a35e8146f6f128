-- The single calls of a release, from port to port: each is determined by what it finds.
use Rattle.std.proofs.Common.{◌≡◌, ◌≢◌, ◌-◌, ℕ, Bool, List, [], ◌∷◌, Option, Result, sym, ◌∙◌, subst, inl, inr}
use Rattle.xp_words.specs.declared.kind.PageType.{PageType}
use Rattle.xp_words.specs.declared.place.Place.{Place}
use Rattle.xp_words.specs.declared.reply.Stop.{Stop}
use Rattle.xp_board.specs.Told.{PortValue}
use Rattle.xp_board.specs.declared.step.Act.{Act}
use Rattle.xp_board.specs.declared.step.Mark.{Mark}
use Rattle.xp_board.specs.declared.step.StepKind.{StepKind}
use Rattle.step_maker.specs.Moves.{Came, Moves}
use Rattle.step_maker.specs.Visits.{Does, Then}
use Rattle.step_maker.proofs.Coming.{came_self, came_trans, moves_came}
use Rattle.step_maker.proofs.Visiting.{does_came}
use Rattle.frame_words.specs.Freeing.{PutBy}
use Rattle.frame_types.specs.Found.{Dies}
use Rattle.partial_state.specs.Levels.{level_type}
use Rattle.partial_state.specs.declared.stack.TableWork.{TableWork}
use Rattle.table_entries.specs.Acquiring.{GaveRef, GaveType, Named}
use Rattle.table_releases.specs.declared.entries.Released.{Released}
use Rattle.level_release.specs.Course.{GaveEntry, LeftInside, Rerecorded, StoredPartial, UnwoundDown, one_less}
use Rattle.level_release.proofs.ServingRun.{unwound_came}
use Rattle.determined_laws.specs.Courses.{Alike}
use Rattle.determined_laws.proofs.Courses.{alike_apart, alike_does, alike_map, alike_move, alike_same, alike_then}
use Rattle.determined_laws.proofs.Calls.{drops_plain_alike, drops_plain_came, puts_alike, puts_came}
use Rattle.determined_laws.proofs.References.{put_tie}
use Rattle.determined_laws.proofs.Types.{dies_tie, then_tie}
use Rattle.determined_releases.proofs.Entries.{released_tie}

-- ---- two courses in general
-- what follows may speak of the port to which both came
pub alike_with : {v w x : PortValue} {E F : Type 0} → Alike v w x E → (w ≡ x → E → F) → Alike v w x F
alike_with (inl f) g = inl f
alike_with (inr s) g = inr (s.0, g s.0 s.1)

-- one step of both, behind which they go on alike
pub move_came : {v w : PortValue} {p : Place} {a : Act} {kind : StepKind} {mark : Option Mark} {m : ℕ} → Moves v w p a kind mark m → Came v w
move_came {v} {w} {p} {a} {kind} {mark} {m} step = moves_came v w p a kind mark m step

pub move_on : {v u : PortValue} {p : Place} {a : Act} {kind : StepKind} {mark : Option Mark} {m : ℕ} (w : PortValue) → Moves v u p a kind mark m → Came u w → Came v w
move_on {v} {u} w step more = came_trans v u w (move_came step) more

pub alike_step : {v a b w x : PortValue} {p : Place} {t : Act} {kind : StepKind} {mark : Option Mark} {m n : ℕ} {F : Type 0} → Moves v a p t kind mark m → Moves v b p t kind mark n → Came a w → Came b x → (a ≡ b → m ≡ n → Alike a w x F) → Alike v w x F
alike_step one two first second rest = alike_then (move_came one) first second (alike_move one two) rest

-- they found words there that are not the same
pub alike_split : {v a b w x : PortValue} {p : Place} {t : Act} {kind : StepKind} {mark : Option Mark} {m n : ℕ} {F : Type 0} → Moves v a p t kind mark m → Moves v b p t kind mark n → Came a w → Came b x → m ≢ n → Alike v w x F
alike_split one two first second off = alike_apart first second (alike_move one two) off

-- ---- frames, types and entries
pub gave_ref_came : {v w : PortValue} {f : ℕ} → GaveRef v w f → Came v w
gave_ref_came {v} {w} {f} p = puts_came v w f p.found

pub gave_ref_alike : {v w x : PortValue} {f : ℕ} → GaveRef v w f → GaveRef v x f → Alike v w x (Unit {0})
gave_ref_alike {f = f} p q = puts_alike f p.found q.found

pub gave_type_came : {v w : PortValue} {f : ℕ} {kind : PageType} → GaveType v w f kind → Came v w
gave_type_came {v} {w} {f} {kind} p = drops_plain_came v w f kind p.found

pub gave_type_alike : {v w x : PortValue} {f : ℕ} {kind : PageType} → GaveType v w f kind → GaveType v x f kind → Alike v w x (Unit {0})
gave_type_alike {f = f} {kind} p q = drops_plain_alike f kind p.found q.found

pub gave_entry_alike : {v w x : PortValue} {t : TableWork} {a b : Result Released Stop} → GaveEntry v w t a → GaveEntry v x t b → Alike v w x (a ≡ b)
gave_entry_alike {v} {w} {x} {t} {a} {b} p q = alike_does p.entry.found q.entry.found (released_tie v.post.machine t.frame (511 - t.done) (level_type t.level) a b)

module _ (v w : PortValue) (f : ℕ) (kind : PageType) (marked : Bool) where
  pub dead_came : Does v w (λ vs. Then (Dies f kind marked) (PutBy f) vs) → Came v w
  dead_came p = does_came v w _ p

  pub dead_alike : (x : PortValue) → Does v w (λ vs. Then (Dies f kind marked) (PutBy f) vs) → Does v x (λ vs. Then (Dies f kind marked) (PutBy f) vs) → Alike v w x (Unit {0})
  dead_alike x p q =
      alike_does p q (λ us vs s t. then_tie _ _ _ _ us vs (Unit {0}) (Unit {0}) s t (dies_tie f kind marked s.before t.before s.first t.first) (λ e. put_tie f s.after t.after s.next t.next))

pub named_alike : {v w x : PortValue} (f : ℕ) → Named v w f → Named v x f → Alike v w x (Unit {0})
named_alike f p q = alike_map (alike_move p q) (λ e. tt)

pub stored_alike : {v w x : PortValue} (t : TableWork) → StoredPartial v w t → StoredPartial v x t → Alike v w x (Unit {0})
stored_alike t p q = alike_map (alike_move p.1 q.1) (λ e. tt)

pub rerecorded_alike : {v w x : PortValue} (t : TableWork) → Rerecorded v w t → Rerecorded v x t → Alike v w x (Unit {0})
rerecorded_alike t p q = alike_map (alike_move p.1 q.1) (λ e. tt)

-- ---- tables that are left, the innermost first
pub left_inside_came : (v w : PortValue) (t : TableWork) (ts us : List TableWork) → LeftInside v t ts w us → Came v w
left_inside_came v w t [] us p = absurd p
left_inside_came v w t (outer ∷ ts) us p = came_trans v p.1.0 w (move_came p.1.1.1) (move_came p.1.2.1)

pub left_inside_alike : {v w x : PortValue} (t : TableWork) (ts us rs : List TableWork) → LeftInside v t ts w us → LeftInside v t ts x rs → Alike v w x (Unit {0})
left_inside_alike t [] us rs p q = absurd p
left_inside_alike {v} {w} {x} t (outer ∷ ts) us rs p q =
    alike_then (move_came p.1.1.1) (move_came p.1.2.1) (move_came q.1.2.1) (stored_alike t p.1.1 q.1.1)
    (λ e k. rerecorded_alike (one_less outer) p.1.2 (subst (λ z. Rerecorded z x (one_less outer)) (sym e) q.1.2))

pub unwound_alike : (ts : List TableWork) (v w x : PortValue) → UnwoundDown v ts w → UnwoundDown v ts x → Alike v w x (Unit {0})
unwound_alike [] v w x p q = alike_same (p ∙ sym q) tt
unwound_alike (t ∷ []) v w x p q =
    alike_then (move_came p.1.1) (move_came p.2) (move_came q.2) (stored_alike t p.1 q.1) (λ e k. named_alike t.frame p.2 (subst (λ z. Named z x t.frame) (sym e) q.2))
unwound_alike (t ∷ outer ∷ ts) v w x p q =
    alike_then (left_inside_came v p.0 t (outer ∷ ts) (one_less outer ∷ ts) p.1) (unwound_came p.0 w (one_less outer ∷ ts) p.2) (unwound_came q.0 x (one_less outer ∷ ts) q.2)
    (left_inside_alike t (outer ∷ ts) (one_less outer ∷ ts) (one_less outer ∷ ts) p.1 q.1)
    (λ e k. unwound_alike (one_less outer ∷ ts) p.0 w x p.2 (subst (λ z. UnwoundDown z (one_less outer ∷ ts) x) (sym e) q.2))
