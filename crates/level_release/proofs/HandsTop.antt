-- The innermost of the tables that are released, as what is in hand for it; and a look, which leaves all as it is.
use Rattle.std.proofs.Common.{◌≡◌, ◌<◌, ◌≤◌, true, false, List, ◌∷◌, length, Some, None, IsTrue, sym, ap, subst, arith}
use Rattle.xp_words.specs.KindWords.{kind_fields}
use Rattle.xp_words.specs.PageTypes.{is_table}
use Rattle.xp_words.specs.Places.{sizes_of}
use Rattle.xp_board.specs.Hands.{refs_to, typed_to, without_ref, without_typed, without_work, work_on}
use Rattle.xp_board.specs.Readings.{is_closing, is_work}
use Rattle.xp_board.specs.Told.{PortValue}
use Rattle.xp_board.specs.declared.holdings.Holdings.{Holdings}
use Rattle.xp_board.specs.declared.holdings.Reference.{Reference}
use Rattle.xp_board.specs.declared.holdings.TypedReference.{TypedReference}
use Rattle.xp_board.specs.declared.holdings.Work.{Work}
use Rattle.xp_board.proofs.ListCounts.{newest_held}
use Rattle.step_maker.specs.Holds.{Same}
use Rattle.step_maker.specs.Moves.{Came}
use Rattle.flush_words.proofs.Lasting.{came_longer}
use Rattle.flush_waits.proofs.Growing.{came_grows, knows_later}
use Rattle.kind_words.proofs.KindHands.{typed_held, work_here}
use Rattle.kind_words.proofs.Leaving.{without_newest}
use Rattle.partial_state.proofs.LevelFacts.{level_type-table}
use Rattle.partial_state.specs.Levels.{level_type}
use Rattle.partial_state.specs.declared.stack.TableWork.{TableWork}
use Rattle.level_release.specs.Holding.{AreRefs, AreOwnTyped, Empties}
use Rattle.level_release.proofs.Hands.{TopRef, TopTable, TopTyped, hands_by, refs_own, refs_top, tables_later, tables_top, typed_later, typed_lent, typed_top}
use Rattle.level_release.proofs.HandsKnown.{owned_still}

module _ {h : Holdings} {v : PortValue} {t : TableWork} {ts : List TableWork} (s : Empties h v (t ∷ ts)) where
  abbrev pub top : TopTable (sizes_of v.post.machine) (length v.holdings.steps) None t ts v.holdings.works
  top = tables_top (sizes_of v.post.machine) (length v.holdings.steps) None t ts v.holdings.works s.tables

  pub top_here : work_on t.frame v.holdings.works ≡ Some top.work
  top_here = work_here t.frame top.work top.others v.holdings.works top.is.frame top.are

  pub top_gone : without_work t.frame v.holdings.works ≡ top.others
  top_gone = without_newest (λ (y : Work). y.frame) t.frame top.work top.others v.holdings.works top.is.frame top.are

  pub top_table : is_table (level_type t.level) ≡ true
  top_table = level_type-table t.level s.stack.0.low

  pub top_few : top.work.recorded ≤ 512
  top_few = let all = top.is.recorded in omega (arith, all)

  -- in work, with a typed reference
  module _ (own : t.own ≡ true) where
    abbrev pub own_typed : TopTyped (length v.holdings.steps) t.frame (AreOwnTyped (length v.holdings.steps) ts) v.holdings.typed
    own_typed = typed_top t.own (length v.holdings.steps) t.frame (AreOwnTyped (length v.holdings.steps) ts) v.holdings.typed own s.types

    pub own_refs : AreRefs h.refs ts v.holdings.refs
    own_refs = refs_own t.own t.frame (AreRefs h.refs ts) v.holdings.refs own s.refs

    pub own_works : IsTrue (is_work (kind_fields top.work.word))
    own_works = top.is.work own

    pub own_held : 0 < typed_to t.frame v.holdings.typed
    own_held = let y = own_typed in subst (λ xs. 0 < typed_to t.frame xs) (sym y.are) (typed_held t.frame y.ref y.others y.frame)

    pub own_gone : without_typed t.frame v.holdings.typed ≡ own_typed.others
    own_gone = let y = own_typed in without_newest (λ (z : TypedReference). z.frame) t.frame y.ref y.others v.holdings.typed y.frame y.are

  -- closing, with an untyped one
  module _ (lent : t.own ≡ false) where
    abbrev pub closing_ref : TopRef t.frame (AreRefs h.refs ts) v.holdings.refs
    closing_ref = refs_top t.own t.frame (AreRefs h.refs ts) v.holdings.refs lent s.refs

    pub closing_typed : AreOwnTyped (length v.holdings.steps) ts v.holdings.typed
    closing_typed = typed_lent t.own (length v.holdings.steps) t.frame (AreOwnTyped (length v.holdings.steps) ts) v.holdings.typed lent s.types

    pub closing_closes : IsTrue (is_closing (kind_fields top.work.word))
    closing_closes = top.is.closing lent

    pub closing_held : 0 < refs_to t.frame v.holdings.refs
    closing_held = let y = closing_ref in subst (λ xs. 0 < refs_to t.frame xs) (sym y.are) (newest_held t.frame y.ref y.others y.frame)

    pub closing_gone : without_ref t.frame v.holdings.refs ≡ closing_ref.others
    closing_gone = let y = closing_ref in without_newest (λ (z : Reference). z.frame) t.frame y.ref y.others v.holdings.refs y.frame y.are

-- ---- a look
pub hands_same : {h : Holdings} {v w : PortValue} {ts : List TableWork} → Same v w → Came v w → Empties h v ts → Empties h w ts
hands_same {h} {v} {w} {ts} same came s =
    let longer = came_longer v w came in
    hands_by w ts v.holdings.refs v.holdings.typed v.holdings.works s same s.stack
    (tables_later (sizes_of v.post.machine) (length v.holdings.steps) (length w.holdings.steps) None ts v.holdings.works longer s.tables) s.refs
    (typed_later (length v.holdings.steps) (length w.holdings.steps) ts v.holdings.typed longer s.types)
    (owned_still (sizes_of v.post.machine) s.owner ts v.holdings w.holdings
    (λ g. knows_later (sizes_of v.post.machine) g s.owner v.holdings w.holdings (came_grows v w came) (ap (λ (q : PortValue). q.holdings.refs) same) (ap (λ (q : PortValue). q.holdings.typed) same)
    (ap (λ (q : PortValue). q.holdings.locks) same)) s.owned)
