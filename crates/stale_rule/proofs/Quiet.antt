-- Marks, and acts after which all that translations read stands as before.
use Rattle.std.proofs.Common.{◌≡◌, ◌≢◌, ℕ, zero, suc, ◌==◌, not, refl, sym, subst, arith, None}
use Rattle.xp_words.specs.Machine.{Machine}
use Rattle.xp_words.specs.declared.place.Place.{Place}
use Rattle.xp_words.specs.declared.place.Place.TheVariants.{Vcpu, Kind, Cell}
use Rattle.xp_words.specs.Places.{flushed_of, run_of}
use Rattle.xp_board.specs.declared.step.Step.{Step}
use Rattle.xp_board.specs.declared.holdings.Holdings.{Holdings}
use Rattle.xp_board.specs.Lists.{Member}
use Rattle.xp_board.specs.ContextSteps.{named_in, named_out}
use Rattle.xp_board.specs.RunSteps.{ran_now}
use Rattle.xp_board.specs.Marks.{demand_seen}
use Rattle.xp_board.specs.Fresh.{Fresh}
use Rattle.xp_board.specs.Keeping.{Acted, KeepsMark}
use Rattle.xp_board.specs.Sound.{Sound}
use Rattle.step_effects.proofs.MarkEffects.{MarkEffect, nothing, turned, forgot, recorded_entry, shed_entry, Recorded, Shed, mark_effect}
use Rattle.step_effects.proofs.ActEffects.{Looked, Missed, Stumbled, Mapped, Charged, Refunded, Named, Based, Asked, Ran, Ticked, Doomed, Buried, Hinted}
use Rattle.xp_board.proofs.HandLists.{EachOf-changed, Member-kept}
use Rattle.stale_rule.proofs.Like.{HandStays, same_stays, parts_like, parts_stay, works_stay, then_stays, learned_stays, cell_stays, own_stays, in_stays, out_stays}
use Rattle.stale_rule.proofs.Moves.{mark_law, still_law, aside_law, not_clock}
use Rattle.xp_board.proofs.Counted.{not_context}
use Rattle.xp_board.proofs.Sums.{either}

-- ---- marks
recorded_stays : (n : Machine) (f upto : ℕ) (h b : Holdings) → Recorded n f upto h b → HandStays h b
recorded_stays n f upto h b d =
    subst (λ y. HandStays h y) (sym d.hand)
    (then_stays _ _ _
    (works_stay h (record h { works = _ }) refl refl refl refl refl
    (λ P new e. EachOf-changed (λ x. P x.frame x.since) (λ x. x.frame) f _ h.works (λ x p. p) e))
    (out_stays (demand_seen d.e.recorded d.e) _))

shed_stays : (n : Machine) (f upto : ℕ) (h b : Holdings) → Shed n f upto h b → HandStays h b
shed_stays n f upto h b d =
    subst (λ y. HandStays h y) (sym d.hand)
    (then_stays _ _ _
    (works_stay h (record h { works = _ }) refl refl refl refl refl
    (λ P new e. EachOf-changed (λ x. P x.frame x.since) (λ x. x.frame) f _ h.works (λ x p. p) e))
    (in_stays _ (demand_seen upto d.e) _))

mark_stays : (n : Machine) (h b : Holdings) → MarkEffect n h b → HandStays h b
mark_stays n h b (nothing e) = subst (λ y. HandStays h y) (sym e) (same_stays h)
mark_stays n h b (turned e) = subst (λ y. HandStays h y) (sym e) (parts_stay h _ refl refl refl refl refl refl)
mark_stays n h b (forgot page d) =
    subst (λ y. HandStays h y) (sym d.hand)
    (record { like = parts_like h _ refl refl refl; claims = λ g e. e; cache = λ x e. Member-kept (λ y. not (y.page == page)) x h.cache e; walk = λ x e. e })
mark_stays n h b (recorded_entry f upto d) = recorded_stays n f upto h b d
mark_stays n h b (shed_entry f upto d) = shed_stays n f upto h b d

pub mark_row : KeepsMark Fresh
mark_row n s x m h b real may marked sound =
    mark_law n s m h b marked.others (mark_stays n (h s) (b s) (mark_effect n s x h b may marked)) sound.fresh

-- ---- acts
named_stays : (k w new : ℕ) (a : Holdings) → HandStays a (named_in k w (named_out new a))
named_stays k zero zero a = same_stays a
named_stays k (suc f) zero a = parts_stay a _ refl refl refl refl refl refl
named_stays k zero (suc g) a = parts_stay a _ refl refl refl refl refl refl
named_stays k (suc f) (suc g) a = parts_stay a _ refl refl refl refl refl refl

no_walk : (a : Holdings) → HandStays a (record a { walk = None })
unfolding Member
no_walk a = record { like = parts_like a _ refl refl refl; claims = λ g e. e; cache = λ x e. e; walk = λ x e. absurd e }

ran_stays : (new : ℕ) (a : Holdings) → HandStays a (ran_now new a)
unfolding Member
ran_stays new a =
    either (HandStays a) (new == 0) _ _ (parts_stay a _ refl refl refl refl refl refl)
    (record { like = parts_like a _ refl refl refl; claims = λ g e. e; cache = λ x e. absurd e; walk = λ x e. e })

other_word : (v w k : ℕ) → k ≢ 5 → flushed_of w ≢ Vcpu v k
other_word v w k n e = n (let j : 5 ≡ k = cc in sym j)

module _ (n : Machine) (s : ℕ) (x : Step) (m m2 : Place → ℕ) (b c : ℕ → Holdings) (acted : Acted n s x m m2 b c) (sound : Sound n m b) where
  pub look_row : (p : Place) → Looked n s x p m m2 (b s) (c s) → Fresh n m2 c
  look_row p d = still_law n s x p m m2 b c _ sound acted.others d.place d.words d.left d.hand (learned_stays s p (m p) (m p) (b s))

  pub miss_row : (f : ℕ) → Missed n x f m m2 (b s) (c s) → Fresh n m2 c
  miss_row f d = still_law n s x (Kind f) m m2 b c _ sound acted.others d.place d.words d.left d.hand (parts_stay (b s) _ refl refl refl refl refl refl)

  pub stumble_row : (f i : ℕ) → Stumbled n x f i m m2 (b s) (c s) → Fresh n m2 c
  stumble_row f i d =
      still_law n s x (Cell f i) m m2 b c _ sound acted.others d.place d.words d.left d.hand
      (then_stays _ _ _ (no_walk (b s)) (cell_stays f i (m (Cell f i)) _))

  pub map_row : (f : ℕ) → Mapped n x f m m2 (b s) (c s) → Fresh n m2 c
  map_row f d =
      aside_law n s x _ _ m m2 b c _ sound acted.others d.wrote d.hand (same_stays (b s)) (not_clock n x _ _ _ d.wrote.place (λ e. cc))
      (λ f i e. cc) (λ k e. cc) (λ v e. cc) (λ f e. cc) (λ f e. cc)

  pub charge_row : (d : ℕ) → Charged n x d m m2 (b s) (c s) → Fresh n m2 c
  charge_row d e =
      aside_law n s x _ _ m m2 b c _ sound acted.others e.wrote e.hand (parts_stay (b s) _ refl refl refl refl refl refl) (not_clock n x _ _ _ e.wrote.place (λ e. cc))
      (λ f i e. cc) (λ k e. cc) (λ v e. cc) (λ f e. cc) (λ f e. cc)

  pub refund_row : (d by : ℕ) → Refunded n x d by m m2 (b s) (c s) → Fresh n m2 c
  refund_row d by e =
      aside_law n s x _ _ m m2 b c _ sound acted.others e.wrote e.hand (parts_stay (b s) _ refl refl refl refl refl refl) (not_clock n x _ _ _ e.wrote.place (λ e. cc))
      (λ f i e. cc) (λ k e. cc) (λ v e. cc) (λ f e. cc) (λ f e. cc)

  pub name_row : (v k : ℕ) → Named n s x v k m m2 (b s) (c s) → Fresh n m2 c
  name_row v k d =
      aside_law n s x _ _ m m2 b c _ sound acted.others d.wrote d.hand
      (then_stays _ _ _ (named_stays k (m (Vcpu v k)) (m2 (Vcpu v k)) (b s)) (learned_stays s (Vcpu v k) (m (Vcpu v k)) (m2 (Vcpu v k)) _))
      (not_clock n x _ _ _ d.wrote.place (λ e. cc))
      (λ f i e. cc) (λ j e. cc) (λ w. other_word v w k (not_context 5 k refl d.word)) (λ f e. cc) (λ f e. cc)

  pub base_row : (v : ℕ) → Based n s x v m m2 (b s) (c s) → Fresh n m2 c
  base_row v d =
      aside_law n s x _ _ m m2 b c _ sound acted.others d.wrote d.hand (same_stays (b s)) (not_clock n x _ _ _ d.wrote.place (λ e. cc))
      (λ f i e. cc) (λ k e. cc) (λ w. other_word v w 7 (λ e. omega arith)) (λ f e. cc) (λ f e. cc)

  pub ask_row : (v : ℕ) → Asked n x v m m2 (b s) (c s) → Fresh n m2 c
  ask_row v d =
      aside_law n s x _ _ m m2 b c _ sound acted.others d.wrote d.hand (same_stays (b s)) (not_clock n x _ _ _ d.wrote.place (λ e. cc))
      (λ f i e. cc) (λ k e. cc) (λ w. other_word v w 4 (λ e. omega arith)) (λ f e. cc) (λ f e. cc)

  pub run_row : Ran n s x m m2 (b s) (c s) → Fresh n m2 c
  run_row d =
      aside_law n s x _ _ m m2 b c _ sound acted.others d.wrote d.hand
      (then_stays _ _ _ (ran_stays (m2 (run_of s)) (b s)) (own_stays 6 (m2 (run_of s)) _)) (not_clock n x _ _ _ d.wrote.place (λ e. cc))
      (λ f i e. cc) (λ k e. cc) (λ w. other_word s w 6 (λ e. omega arith)) (λ f e. cc) (λ f e. cc)

  pub tick_row : Ticked n x m m2 (b s) (c s) → Fresh n m2 c
  tick_row d =
      aside_law n s x _ _ m m2 b c _ sound acted.others d.wrote d.hand (same_stays (b s))
      (λ e. let left = d.wrote.left in let more = d.is in (omega arith, omega arith))
      (λ f i e. cc) (λ k e. cc) (λ v e. cc) (λ f e. cc) (λ f e. cc)

  pub doom_row : (d : ℕ) → Doomed n s x d m m2 (b s) (c s) → Fresh n m2 c
  doom_row d e =
      aside_law n s x _ _ m m2 b c _ sound acted.others e.wrote e.hand (learned_stays s (Place.Life d) (m (Place.Life d)) 0 (b s)) (not_clock n x _ _ _ e.wrote.place (λ e. cc))
      (λ f i e. cc) (λ k e. cc) (λ v e. cc) (λ f e. cc) (λ f e. cc)

  pub bury_row : (d : ℕ) → Buried n s x d m m2 (b s) (c s) → Fresh n m2 c
  bury_row d e =
      aside_law n s x _ _ m m2 b c _ sound acted.others e.wrote e.hand (learned_stays s (Place.Life d) (m (Place.Life d)) 0 (b s)) (not_clock n x _ _ _ e.wrote.place (λ e. cc))
      (λ f i e. cc) (λ k e. cc) (λ v e. cc) (λ f e. cc) (λ f e. cc)

  pub hint_row : (k by : ℕ) → Hinted n x k by m m2 (b s) (c s) → Fresh n m2 c
  hint_row k by d =
      aside_law n s x _ _ m m2 b c _ sound acted.others d.wrote d.hand (parts_stay (b s) _ refl refl refl refl refl refl) (not_clock n x _ _ _ d.wrote.place (λ e. cc))
      (λ f i e. cc) (λ j e. cc) (λ v e. cc) (λ f e. cc) (λ f e. cc)
