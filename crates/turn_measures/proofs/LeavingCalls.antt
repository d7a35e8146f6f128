-- What each step of a call leaves of the others: by its reason, and the clock by what is legal.
use Rattle.std.proofs.Common.{◌≡◌, ◌≢◌, ℕ, ◌+◌, ◌≤◌, ◌==◌, if◌then◌else◌, true, List, [], ◌∷◌, Option, None, refl, sym, ◌∙◌, subst, inl, inr, arith}
use Rattle.std.proofs.lemmas.Bool.Decides.{nat_tests}
use Rattle.xp_words.specs.Machine.{Machine}
use Rattle.xp_words.specs.declared.place.Place.{Place}
use Rattle.xp_words.specs.declared.place.Place.TheVariants.{Clock, Pages, Life, Vcpu, Refs, Kind, M2p, Cell, Map, Priv}
use Rattle.xp_board.specs.Acts.{left_by}
use Rattle.xp_board.specs.Legal.{LegalAs}
use Rattle.xp_board.specs.Lists.{EachOf}
use Rattle.xp_board.specs.Marks.{after_mark}
use Rattle.xp_board.specs.Told.{Post, PortValue, is_telling}
use Rattle.xp_board.specs.declared.holdings.Holdings.{Holdings}
use Rattle.xp_board.specs.declared.step.Act.{Act}
use Rattle.xp_board.specs.declared.step.Act.TheVariants.{Load, Cas, Store, Add, Max}
use Rattle.xp_board.specs.declared.step.Mark.{Mark}
use Rattle.xp_board.specs.declared.step.StepKind.{StepKind}
use Rattle.xp_board.specs.declared.step.StepKind.TheVariants as kinds
use Rattle.step_maker.specs.Moves.{Moment, Moves, Ran}
use Rattle.step_maker.proofs.Coming.{ran_post}
use Rattle.step_maker.proofs.Telling.{ran_telling}
use Rattle.step_maker.specs.Answers.{Deed, Serves}
use Rattle.step_maker.specs.Asked.{Request}
use Rattle.step_maker.specs.Finding.{Finding}
use Rattle.step_maker.specs.Reasons.{HasReason, Reason}
use Rattle.turn_measures.proofs.Leaving.{Spared, Spares, spared_trans, same_spared, step_leaves}

-- ---- steps that leave them
pub load_spares : (s : ℕ) (p : Place) (x : ℕ) → Spares s p Load x
unfolding left_by
load_spares s p x = record { words = λ t k off other is. refl; asked = λ t off is. omega arith; lives = λ d is. refl; clock = λ is. omega arith }

pub own_spares : (s k : ℕ) (a : Act) (x : ℕ) → Spares s (Vcpu s k) a x
own_spares s k a x =
    record {
      words = λ t j off other is. absurd (off (own t j is));
      asked = λ t off is. absurd (off (own t 4 is));
      lives = λ d is. absurd (cc);
      clock = λ is. absurd (cc);
    }
  where
    own : (t j : ℕ) → Vcpu s k ≡ Vcpu t j → t ≡ s
    own t j is = cc

asks_spares : (s v stamp x : ℕ) → Spares s (Vcpu v 4) (Max stamp) x
unfolding left_by
asks_spares s v stamp x =
    record {
      words = λ t j off other is. absurd (other (four t j is));
      asked = λ t off is. omega arith;
      lives = λ d is. absurd (cc);
      clock = λ is. absurd (cc);
    }
  where
    four : (t j : ℕ) → Vcpu v 4 ≡ Vcpu t j → j ≡ 4
    four t j is = cc

pub clock_spares : (s : ℕ) (a : Act) (x : ℕ) → x ≤ left_by a x → Spares s Clock a x
clock_spares s a x up = record { words = λ t j off other is. absurd (cc); asked = λ t off is. absurd (cc); lives = λ d is. absurd (cc); clock = λ is. up }

-- words of frames, and of what a domain counts
abbrev IsApart : Place → Type 0
IsApart p = ((t k : ℕ) → p ≢ Vcpu t k) × (((d : ℕ) → p ≢ Life d) × (p ≢ Clock))

apart_spares : (s : ℕ) (p : Place) (a : Act) (x : ℕ) → IsApart p → Spares s p a x
apart_spares s p a x off =
    record {
      words = λ t j other more is. absurd (off.0 t j is);
      asked = λ t other is. absurd (off.0 t 4 is);
      lives = λ d is. absurd (off.1.0 d is);
      clock = λ is. absurd (off.1.1 is);
    }

-- ---- the clock
tick_up : (e x : ℕ) → x ≤ (if x == e then e + 1 else x)
tick_up e x = grind (arith, nat_tests)

look_up : (n : Machine) (s : ℕ) (h : Holdings) (mark : Option Mark) (a : Act) (x : ℕ) → LegalAs n s h Clock a mark kinds.Look → x ≤ left_by a x
unfolding left_by
look_up n s h mark Load x legal = omega arith
look_up n s h mark (Cas e w) x legal = absurd legal
look_up n s h mark (Store w) x legal = absurd legal
look_up n s h mark (Add w) x legal = absurd legal
look_up n s h mark (Max w) x legal = absurd legal

ticks_up : (n : Machine) (s : ℕ) (h : Holdings) (mark : Option Mark) (a : Act) (x : ℕ) → LegalAs n s h Clock a mark kinds.Tick → x ≤ left_by a x
unfolding left_by
ticks_up n s h mark Load x legal = absurd legal
ticks_up n s h mark (Cas e w) x legal = subst (λ y. x ≤ (if x == e then y else x)) (sym legal.left) (tick_up e x)
ticks_up n s h mark (Store w) x legal = absurd legal
ticks_up n s h mark (Add w) x legal = absurd legal
ticks_up n s h mark (Max w) x legal = absurd legal

pub clock_up : (n : Machine) (s : ℕ) (h : Holdings) (mark : Option Mark) (a : Act) (x : ℕ) (kind : StepKind) → LegalAs n s h Clock a mark kind → x ≤ left_by a x
clock_up n s h mark a x kinds.Look legal = look_up n s h mark a x legal
clock_up n s h mark a x kinds.Ref legal = absurd legal
clock_up n s h mark a x kinds.Kind legal = absurd legal
clock_up n s h mark a x kinds.Cell legal = absurd legal
clock_up n s h mark a x kinds.M2p legal = absurd legal
clock_up n s h mark a x kinds.Pages legal = absurd legal
clock_up n s h mark a x kinds.Context legal = absurd legal
clock_up n s h mark a x kinds.Fill legal = absurd legal
clock_up n s h mark a x kinds.Guest legal = absurd legal
clock_up n s h mark a x kinds.Tick legal = ticks_up n s h mark a x legal
clock_up n s h mark a x kinds.Ask legal = absurd legal
clock_up n s h mark a x kinds.Ack legal = absurd legal
clock_up n s h mark a x kinds.Life legal = absurd legal
clock_up n s h mark a x kinds.Run legal = absurd legal
clock_up n s h mark a x kinds.Hint legal = absurd legal
clock_up n s h mark a x kinds.Touch legal = absurd legal
clock_up n s h mark a x kinds.Priv legal = absurd legal

pub moves_up : (v w : PortValue) (a : Act) (kind : StepKind) (mark : Option Mark) (found : ℕ) → Moves v w Clock a kind mark found → found ≤ left_by a found
moves_up v w a kind mark found m = clock_up v.post.machine v.post.vcpu (after_mark v.post.machine mark v.holdings) mark a found kind m.may.act

-- ---- by its reason, in a call that destroys no domain
module _ (n : Machine) (s : ℕ) (r : Request) (F : Finding) (kept : r.destroys ≡ None) where
  vcpu_spares : (v k : ℕ) (a : Act) (x : ℕ) (h : Holdings) → Reason n s r F (Vcpu v k) a x h → Spares s (Vcpu v k) a x
  vcpu_spares v k Load x h why = absurd why
  vcpu_spares v k (Max stamp) x h why = subst (λ j. Spares s (Vcpu v j) (Max stamp) x) (sym why.0) (asks_spares s v stamp x)
  vcpu_spares v k (Cas e w) x h (inl why) = subst (λ u. Spares s (Vcpu u k) (Cas e w) x) (sym why.0) (own_spares s k (Cas e w) x)
  vcpu_spares v k (Cas e w) x h (inr why) = absurd (cc)
  vcpu_spares v k (Store w) x h (inl why) = subst (λ u. Spares s (Vcpu u k) (Store w) x) (sym why.0) (own_spares s k (Store w) x)
  vcpu_spares v k (Store w) x h (inr why) = absurd (cc)
  vcpu_spares v k (Add w) x h (inl why) = subst (λ u. Spares s (Vcpu u k) (Add w) x) (sym why.0) (own_spares s k (Add w) x)
  vcpu_spares v k (Add w) x h (inr why) = absurd (cc)

  reason_spares : (p : Place) (a : Act) (x : ℕ) (h : Holdings) → (p ≡ Clock → x ≤ left_by a x) → Reason n s r F p a x h → Spares s p a x
  reason_spares Clock a x h up why = clock_spares s a x (up refl)
  reason_spares (Life d) a x h up why = absurd (cc)
  reason_spares (Vcpu v k) a x h up why = vcpu_spares v k a x h why
  reason_spares (Pages d) a x h up why = apart_spares s (Pages d) a x (λ t k. λ is. absurd (cc), (λ e is. absurd (cc), λ is. absurd (cc)))
  reason_spares (Refs f) a x h up why = apart_spares s (Refs f) a x (λ t k. λ is. absurd (cc), (λ e is. absurd (cc), λ is. absurd (cc)))
  reason_spares (Kind f) a x h up why = apart_spares s (Kind f) a x (λ t k. λ is. absurd (cc), (λ e is. absurd (cc), λ is. absurd (cc)))
  reason_spares (M2p f) a x h up why = apart_spares s (M2p f) a x (λ t k. λ is. absurd (cc), (λ e is. absurd (cc), λ is. absurd (cc)))
  reason_spares (Cell f i) a x h up why = apart_spares s (Cell f i) a x (λ t k. λ is. absurd (cc), (λ e is. absurd (cc), λ is. absurd (cc)))
  reason_spares (Map k) a x h up why = apart_spares s (Map k) a x (λ t j. λ is. absurd (cc), (λ e is. absurd (cc), λ is. absurd (cc)))
  reason_spares (Priv d) a x h up why = apart_spares s (Priv d) a x (λ t k. λ is. absurd (cc), (λ e is. absurd (cc), λ is. absurd (cc)))

  pub call_spares : (p : Place) (a : Act) (x : ℕ) (h : Holdings) → (p ≡ Clock → x ≤ left_by a x) → HasReason n s r F p a x h → Spares s p a x
  call_spares p Load x h up why = load_spares s p x
  call_spares p (Cas e w) x h up why = reason_spares p (Cas e w) x h up why
  call_spares p (Store w) x h up why = reason_spares p (Store w) x h up why
  call_spares p (Add w) x h up why = reason_spares p (Add w) x h up why
  call_spares p (Max w) x h up why = reason_spares p (Max w) x h up why

moved_up : (v w : PortValue) (p : Place) (a : Act) (kind : StepKind) (mark : Option Mark) (found : ℕ) → Moves v w p a kind mark found → p ≡ Clock → found ≤ left_by a found
moved_up v w p a kind mark found m is = moves_up v w a kind mark found (subst (λ q. Moves v w q a kind mark found) is m)

-- ---- all steps of a call
ran_spares : (v w : PortValue) (r : Request) (F : Finding) (ms : List Moment) → r.destroys ≡ None → Ran v ms w → EachOf (λ m. HasReason v.post.machine v.post.vcpu r F m.place m.act m.found m.hand) ms →
    is_telling v ≡ true → Spared v w
unfolding EachOf
ran_spares v w r F [] kept ran why is = same_spared v w ran
ran_spares v w r F (m ∷ ms) kept ran why is =
    let u = ran.0 in
    let post = ran_post v u ms ran.1 in
    let on = ran.2.moves in
    let spares = call_spares v.post.machine v.post.vcpu r F kept m.place m.act m.found m.hand (moved_up u w m.place m.act m.kind m.mark m.found on) why.0 in
    spared_trans v u w post (ran_spares v u r F ms kept ran.1 why.1 is)
    (step_leaves u w m.place m.act m.kind m.mark m.found on (ran_telling v u ms ran.1 ∙ is) (subst (λ (q : Post). Spares q.vcpu m.place m.act m.found) (sym post) spares))

pub serves_spares : (v w : PortValue) (r : Request) (ds : List Deed) → r.destroys ≡ None → Serves v w r ds → is_telling v ≡ true → Spared v w
unfolding Serves
serves_spares v w r ds kept serves is = ran_spares v w r _ serves.0 kept serves.1.ran serves.1.reasons is
