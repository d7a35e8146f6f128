-- The frame of an entry that is shed by a look at its kind word is known live; and an unsettled entry is settled by such a look.
use Rattle.std.proofs.Common.{◌≡◌, ℕ, ◌-◌, ◌≤◌, Bool, true, false, ◌∷◌, length, Option, Some, None, IsTrue, refl, sym, ap, ◌∙◌, subst, arith}
use Rattle.xp_words.specs.Entries.{demand_at}
use Rattle.xp_words.specs.KindWords.{kind_fields}
use Rattle.xp_words.specs.Places.{Sizes, sizes_of}
use Rattle.xp_words.specs.declared.entry.Demand.{Demand}
use Rattle.xp_words.specs.declared.entry.Demand.TheVariants.{Typed}
use Rattle.xp_words.specs.declared.kind.PageType.{PageType}
use Rattle.xp_words.specs.declared.place.Place.TheVariants.{Kind}
use Rattle.xp_board.specs.declared.holdings.Holdings.{Holdings}
use Rattle.xp_board.specs.declared.holdings.Work.{Work}
use Rattle.xp_board.specs.declared.step.Act.{Act}
use Rattle.xp_board.specs.declared.step.Act.TheVariants.{Load}
use Rattle.xp_board.specs.declared.step.Mark.{Mark}
use Rattle.xp_board.specs.declared.step.Mark.TheVariants.{Shed}
use Rattle.xp_board.specs.declared.step.StepKind.{StepKind}
use Rattle.xp_board.specs.declared.step.StepKind.TheVariants as kinds
use Rattle.xp_board.specs.Acts.{left_by}
use Rattle.xp_board.specs.Hands.{brought_as, owner_from}
use Rattle.xp_board.specs.Knowledge.{knows_live}
use Rattle.xp_board.specs.Readings.{is_live_as, is_live_word}
use Rattle.xp_board.specs.Settling.{demand_in, is_settled, settles, settles_last}
use Rattle.xp_board.specs.Told.{PortValue}
use Rattle.kind_words.proofs.KindHands.{known_first}
use Rattle.step_maker.specs.Holds.{Holds}
use Rattle.step_maker.specs.Moves.{Moves}
use Rattle.step_maker.proofs.Noting.{moves_since}
use Rattle.table_words.specs.Entries.{ShedsLast, entry_shed}
use Rattle.table_words.proofs.EntryHands.{last_asks, shed_left}
use Rattle.kind_words.proofs.Knowing.{live_by_step}

-- ---- shed
module _ (v w : PortValue) (f upto g : ℕ) (t : PageType) (last : ShedsLast f upto v.holdings) (asks : last_asks v.post.machine f upto v.holdings last ≡ Typed g t) (hand : Holds v w (entry_shed v.post.machine f upto v.holdings)) where
  abbrev sure : Bool
  sure = is_settled (sizes_of v.post.machine) v.holdings last.work

  -- the reference that came into the hand
  pub shed_newest : w.holdings.typed ≡ brought_as sure g t v.holdings ∷ v.holdings.typed
  shed_newest =
      ap (λ (q : PortValue). q.holdings.typed) hand ∙ ap (λ (u : Holdings). u.typed) (shed_left v.post.machine f upto v.holdings last)
      ∙ ap (λ (d : Demand). (demand_in sure d v.holdings).typed) asks

  known_by : (settled : Bool) → w.holdings.typed ≡ brought_as settled g t v.holdings ∷ v.holdings.typed → (found : ℕ) → Moves v w (Kind g) Load kinds.Look (Some (Shed f upto)) found → is_live_as t found ≡ true →
      IsTrue (knows_live (sizes_of v.post.machine) g t w.holdings)
  unfolding left_by
  known_by true newest found look live = known_first (sizes_of v.post.machine) g t (owner_from v.holdings) v.holdings.typed w.holdings newest
  known_by false newest found look live =
      live_by_step v w g t Load kinds.Look (Some (Shed f upto)) found look (brought_as false g t v.holdings) v.holdings.typed (length v.holdings.steps) newest refl refl (omega arith) live

  -- a settled one needs no look
  pub shed_settled_known : IsTrue sure → IsTrue (knows_live (sizes_of v.post.machine) g t w.holdings)
  shed_settled_known settled =
      known_first (sizes_of v.post.machine) g t (owner_from v.holdings) v.holdings.typed w.holdings (shed_newest ∙ ap (λ (b : Bool). brought_as b g t v.holdings ∷ v.holdings.typed) settled)

-- ---- settled
pub none_unsettled : (z : Sizes) (h : Holdings) (e : Work) → e.unsettled ≡ None → IsTrue (is_settled z h e)
unfolding is_settled
none_unsettled z h e none = rw none refl

-- the frame of the unsettled entry was found or left live
pub settled_by_step : (v w : PortValue) (e : Work) (n word g : ℕ) (t : PageType) (a : Act) (kind : StepKind) (mark : Option Mark) (found : ℕ) → Moves v w (Kind g) a kind mark found → is_live_word (left_by a found) ≡ true →
    e.unsettled ≡ Some (record { since = n; word = Some word }) → demand_at (kind_fields e.word).kind (e.recorded - 1) word ≡ Typed g t → n ≤ length v.holdings.steps → IsTrue (is_settled (sizes_of v.post.machine) w.holdings e)
unfolding is_settled
settled_by_step v w e n word g t a kind mark found m live unsettled asks late =
    subst (λ o. IsTrue (settles_last (sizes_of v.post.machine) e w.holdings.steps o)) (sym unsettled)
    (subst (λ d. IsTrue (settles (sizes_of v.post.machine) n w.holdings.steps d)) (sym asks) (moves_since v w (Kind g) a kind mark found m n is_live_word late live))
