-- What a turn that begins finds of lives, and what a call that destroys no domain leaves of them.
use Rattle.std.proofs.Common.{◌≡◌, ℕ, ◌<◌, IsTrue, Bool, true, false, List, [], ◌∷◌, None, refl, sym, ap, ◌∙◌, subst, arith}
use Rattle.std.proofs.lemmas.Bool.Decides.{nat_tests}
use Rattle.xp_words.specs.Machine.{Machine}
use Rattle.xp_words.specs.Places.{is_place, sizes_of}
use Rattle.xp_words.specs.declared.place.Place.TheVariants.{Life}
use Rattle.xp_board.specs.declared.holdings.Holdings.{Holdings}
use Rattle.xp_board.specs.declared.step.Act.{Act}
use Rattle.xp_board.specs.declared.step.Act.TheVariants.{Load, Cas, Store, Add, Max}
use Rattle.xp_board.specs.Acts.{left_by}
use Rattle.xp_board.specs.Lists.{EachOf}
use Rattle.xp_board.specs.Steps.{is_same}
use Rattle.xp_board.specs.Told.{Post, PortValue, is_telling, told_word}
use Rattle.xp_board.proofs.PlaceTests.{same_place}
use Rattle.step_maker.specs.Moves.{Met, Moment, MovesBy, Ran}
use Rattle.step_maker.proofs.Coming.{came_post, came_trans, moves_came}
use Rattle.step_maker.proofs.Telling.{came_telling, leaves, ran_telling, told_here}
use Rattle.step_maker.specs.Answers.{Deed, Serves}
use Rattle.step_maker.specs.Asked.{Request}
use Rattle.step_maker.specs.Finding.{Finding}
use Rattle.step_maker.specs.Reasons.{HasReason}
use Rattle.flush_words.specs.Flushing as flushes
use Rattle.tlb_walks.proofs.Flushes.{acks_came}
use Rattle.frame_ranks.specs.Ranks.{AreAllAlive}
use Rattle.vcpu_turn.specs.Turning.{Begins}
use Rattle.turn_measures.proofs.Beginning.{begins_leaves}

-- where no domain is dying, the life word is found 0
pub begins_alive : (v w : PortValue) (d run life : ℕ) → Begins v w d run life → is_telling v ≡ true → AreAllAlive v.post.machine (told_word v) → life ≡ 0
unfolding left_by is_place
begins_alive v w d run life b telling alive =
    let acked = acks_came v b.acked b.acks in
    let looked = came_trans v b.acked b.looked acked (moves_came b.acked b.looked _ _ _ _ _ b.running) in
    let here : told_word w (Life d) ≡ life = told_here b.looked w _ _ _ _ _ b.lives (came_telling v b.looked looked ∙ telling) in
    let there : IsTrue (is_place (sizes_of v.post.machine) (Life d)) = subst (λ (q : Post). IsTrue (is_place (sizes_of q.machine) (Life d))) (came_post v b.looked looked) b.lives.may.place in
    let real : d < (sizes_of v.post.machine).domains = grind (arith, nat_tests) in
    sym here ∙ begins_leaves v w d run life b telling (Life d) (λ same. absurd cc) (λ same. absurd cc) ∙ alive d real

-- ---- a call that destroys no domain
by_bool : {A : Type 0} (b : Bool) → (b ≡ true → A) → (b ≡ false → A) → A
by_bool true on off = on refl
by_bool false on off = off refl

module _ (n : Machine) (s : ℕ) (r : Request) (F : Finding) (d : ℕ) (none : r.destroys ≡ None) where
  act_leaves : (a : Act) (x y : ℕ) (h : Holdings) → HasReason n s r F (Life d) a x h → left_by a y ≡ y
  unfolding left_by
  act_leaves Load x y h why = refl
  act_leaves (Cas e w) x y h why = absurd cc
  act_leaves (Store w) x y h why = absurd cc
  act_leaves (Add w) x y h why = absurd cc
  act_leaves (Max w) x y h why = absurd cc

  move_leaves : (u w : PortValue) (m : Moment) → is_telling u ≡ true → MovesBy u w m → HasReason n s r F m.place m.act m.found m.hand → told_word w (Life d) ≡ told_word u (Life d)
  move_leaves u w m telling by why =
      let after = leaves u w m.place m.act m.kind m.mark m.found by.moves telling (Life d) in
      by_bool (is_same (Life d) m.place)
      (λ on.
      let place : Life d ≡ m.place = same_place (Life d) m.place on in
      let why' : HasReason n s r F (Life d) m.act m.found m.hand = subst (λ p. HasReason n s r F p m.act m.found m.hand) (sym place) why in
      (rw on at after) ∙ act_leaves m.act m.found (told_word u m.place) m.hand why' ∙ ap (told_word u) (sym place))
      (λ off. rw off at after)

  ran_leaves : (v w : PortValue) (ms : List Moment) → is_telling v ≡ true → Ran v ms w → EachOf (λ (m : Moment). HasReason n s r F m.place m.act m.found m.hand) ms → told_word w (Life d) ≡ told_word v (Life d)
  unfolding EachOf
  ran_leaves v w [] telling same why = ap (λ (y : PortValue). told_word y (Life d)) same
  ran_leaves v w (m ∷ ms) telling ran why =
      move_leaves ran.0 w m (ran_telling v ran.0 ms ran.1 ∙ telling) ran.2 why.0 ∙ ran_leaves v ran.0 ms telling ran.1 why.1

pub serves_leaves : (v w : PortValue) (r : Request) (ds : List Deed) (d : ℕ) → r.destroys ≡ None → is_telling v ≡ true → Serves v w r ds → told_word w (Life d) ≡ told_word v (Life d)
unfolding Serves
serves_leaves v w r ds d none telling s =
    ran_leaves v.post.machine v.post.vcpu r (Met v w) d none v w s.0 telling s.1.ran s.1.reasons
