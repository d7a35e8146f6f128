-- What a port holds, said by itself and from an earlier one.
use Rattle.std.proofs.Common.{◌≡◌, List, [], ◌∷◌, Result, Ok, Err, sym, ap, ◌∙◌}
use Rattle.xp_words.specs.declared.reply.Stop.{Stop}
use Rattle.xp_board.specs.Told.{Post, PortValue}
use Rattle.xp_board.specs.declared.holdings.Holdings.{Holdings}
use Rattle.xp_board.specs.declared.holdings.Reference.{Reference}
use Rattle.xp_board.specs.declared.holdings.TypedReference.{TypedReference}
use Rattle.xp_board.specs.declared.holdings.Work.{Work}
use Rattle.step_maker.specs.Holds.{Holds, still}
use Rattle.step_maker.specs.Moves.{Came}
use Rattle.step_maker.proofs.Coming.{came_post}
use Rattle.partial_state.specs.declared.stack.TableWork.{TableWork}
use Rattle.level_release.specs.Holding.{Empties, HoldsNow, LeavesEmptied, LeavesUnheld, named_hand}

module _ (v w : PortValue) (h : Holdings) where
  -- beside its own references and works
  pub now_beside : (rs : List Reference) (ys : List TypedReference) (ws : List Work) → Holds v w (record h { refs = rs; typed = ys; works = ws }) → HoldsNow w (record h { refs = w.holdings.refs; typed = w.holdings.typed; works = w.holdings.works })
  now_beside rs ys ws hand = hand ∙ ap (λ (q : PortValue). still (record q { holdings = record h { refs = q.holdings.refs; typed = q.holdings.typed; works = q.holdings.works } })) (sym hand)

  pub held_from : w.post ≡ v.post → HoldsNow w h → Holds v w h
  held_from same now = now ∙ ap (λ (p : Post). still (record w { post = p; holdings = h })) same

-- the only table was emptied, whose reference was the only typed one
pub emptied_leaves : (v : PortValue) {x : PortValue} (w : PortValue) {t : TableWork} → x.post ≡ v.post → Came x w → Empties (record v.holdings { typed = [] }) x (t ∷ []) → (answer : Result (Unit {0}) Stop) → LeavesEmptied x w t answer →
    LeavesUnheld v w t.frame answer
emptied_leaves v {x} w same came stands (Ok done) left = held_from v w (record v.holdings { typed = [] }) (came_post x w came ∙ same) (left (record v.holdings { typed = [] }) stands)
emptied_leaves v {x} w {t} same came stands (Err e) left =
    held_from v w (named_hand t.frame (record v.holdings { typed = [] })) (came_post x w came ∙ same) (left (record v.holdings { typed = [] }) stands)
