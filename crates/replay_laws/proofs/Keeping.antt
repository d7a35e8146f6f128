-- A step at a place that the request leaves alone leaves the word that it found.
use Rattle.std.proofs.Common.{◌≡◌, ◌≢◌, ℕ, Bool, true, false, if◌then◌else◌, List, [], ◌∷◌, ◌++◌, Option, Some, None, IsTrue, refl, sym, ap, ◌∙◌, subst, inl, inr}
use Rattle.xp_words.specs.Machine.{Machine}
use Rattle.xp_words.specs.declared.place.Place.{Place}
use Rattle.xp_words.specs.declared.place.Place.TheVariants.{Cell, Kind, Life, M2p, Map, Pages, Priv, Refs, Vcpu}
use Rattle.xp_board.specs.declared.step.Act.{Act}
use Rattle.xp_board.specs.declared.step.Act.TheVariants.{Load, Cas, Store, Add, Max}
use Rattle.xp_board.specs.declared.step.Mark.{Mark}
use Rattle.xp_board.specs.declared.step.StepKind.{StepKind}
use Rattle.xp_board.specs.declared.step.StepKind.TheVariants as steps
use Rattle.xp_board.specs.declared.holdings.Holdings.{Holdings}
use Rattle.xp_board.specs.Acts.{left_by}
use Rattle.xp_board.specs.Legal.{LegalAs}
use Rattle.xp_board.specs.Lists.{EachOf, Member}
use Rattle.xp_board.specs.Marks.{after_mark}
use Rattle.xp_board.proofs.PlaceTests.{same_or_other}
use Rattle.xp_words.specs.declared.kind.PageType.{PageType}
use Rattle.xp_board.specs.Told.{Post, PortValue, is_telling, told_word}
use Rattle.step_maker.specs.Answers.{Deed, Serves, SetsWord, deeds, deeds_by, is_told_word, marked_by, stored_as}
use Rattle.step_maker.specs.Asked.{Request, Asked, named, demanded, entered, walked, context, of_old, doomed, IsAsked, of, back}
use Rattle.step_maker.specs.Finding.{Finding}
use Rattle.step_maker.specs.Moves.{Moment, Met, MovesBy, Ran}
use Rattle.step_maker.specs.Reasons.{HasReason, Reason, found, taken, MayCountPages}
use Rattle.xp_board.specs.Readings.{domain_of}
use Rattle.step_maker.proofs.Coming.{ran_post}
use Rattle.step_maker.proofs.Telling.{ran_telling, told_elsewhere, told_here, told_there}
use Rattle.step_maker.proofs.Members.{in_left, in_right}
use Rattle.replay_laws.specs.LeftAlone.{IsUnasked, IsLeftAlone, life, privilege, other, word, refs, kind, m2p, cell, map, pages}

-- ---- a frame of which nothing is asked
is_off : (b : Bool) → b ≡ false → b ≡ true → ⊥
is_off b a e = let k = sym a ∙ e in absurd cc

no_some : (o : Option ℕ) (x : ℕ) → o ≡ None → o ≡ Some x → ⊥
no_some o x a b = let e = sym a ∙ b in absurd cc

unasked_for : (n : Machine) (s : ℕ) (r : Request) (F : Finding) (f owner : ℕ) (want : Option PageType) → IsUnasked r f → Asked n s r F f owner want → ⊥
unasked_for n s r F f owner want not (named a b c) = is_off (r.names f) not.names a
unasked_for n s r F f owner want not (demanded t i w h a b c d) = is_off r.entries not.entries a
unasked_for n s r F f owner want not (entered t i w o m a b c d e g j k) = is_off r.entries not.entries a
unasked_for n s r F f owner want not (walked t i w a b c d e) = is_off r.walks not.walks a
unasked_for n s r F f owner want not (context v k w a b c d e g j) = is_off r.contexts not.contexts a
unasked_for n s r F f owner want not (of_old v k w x a b c d e g j l o) = is_off r.contexts not.contexts a
unasked_for n s r F f owner want not (doomed d x a b c e g) = no_some r.destroys d not.destroys a

unasked : (n : Machine) (s : ℕ) (r : Request) (F : Finding) (f : ℕ) → IsUnasked r f → IsAsked n s r F f → ⊥
unasked n s r F f not (of owner want a) = unasked_for n s r F f owner want not a
unasked n s r F f not (back a) = is_off (r.backs f) not.backs a

uncounted : (n : Machine) (s : ℕ) (r : Request) (F : Finding) (d : ℕ) → r.pages ≡ None → ((f : ℕ) → IsUnasked r f) → MayCountPages n s r F d → ⊥
uncounted n s r F d none not (found f w a b c) = unasked n s r F f (not f) a
uncounted n s r F d none not (taken k a b) = no_some r.pages k none a

-- ---- words of vCPUs
no_exchange : (n : Machine) (s v k e w : ℕ) (h : Holdings) (mark : Option Mark) (by : StepKind) → LegalAs n s h (Vcpu v k) (Cas e w) mark by → ⊥
no_exchange n s v k e w h mark steps.Look legal = legal
no_exchange n s v k e w h mark by legal = absurd legal

no_sum : (n : Machine) (s v k w : ℕ) (h : Holdings) (mark : Option Mark) (by : StepKind) → LegalAs n s h (Vcpu v k) (Add w) mark by → ⊥
no_sum n s v k w h mark steps.Look legal = legal
no_sum n s v k w h mark by legal = absurd legal

is_ask : (n : Machine) (s v k w : ℕ) (h : Holdings) (mark : Option Mark) (by : StepKind) → LegalAs n s h (Vcpu v k) (Max w) mark by → k ≡ 4
is_ask n s v k w h mark steps.Ask legal = legal.0
is_ask n s v k w h mark by legal = absurd legal

told_deed : (b : Bool) (d : Deed) → IsTrue b → Member d (if b then (d ∷ []) else [])
unfolding Member
told_deed true d on = inl refl
told_deed false d on = absurd cc

store_sets : (v k x w : ℕ) (h : Holdings) (by : StepKind) → IsTrue (is_told_word k) → Member (SetsWord v k w) (stored_as by (Vcpu v k) x w h)
store_sets v k x w h steps.Guest told = told_deed (is_told_word k) (SetsWord v k w) told
store_sets v k x w h by told = told_deed (is_told_word k) (SetsWord v k w) told

word_stays : (n : Machine) (s v k x : ℕ) (ds : List Deed) (b h : Holdings) (mark : Option Mark) (by : StepKind) (a : Act) → IsTrue (is_told_word k) → ((w : ℕ) → Member (SetsWord v k w) ds → ⊥) → LegalAs n s b (Vcpu v k) a mark by →
    ((d : Deed) → Member d (deeds_by (Vcpu v k) a by x h) → Member d ds) → left_by a x ≡ x
unfolding left_by
word_stays n s v k x ds b h mark by Load told none legal seen = refl
word_stays n s v k x ds b h mark by (Cas e w) told none legal seen = absurd (no_exchange n s v k e w b mark by legal)
word_stays n s v k x ds b h mark by (Store w) told none legal seen = absurd (none w (seen (SetsWord v k w) (store_sets v k x w h by told)))
word_stays n s v k x ds b h mark by (Add w) told none legal seen = absurd (no_sum n s v k w b mark by legal)
word_stays n s v k x ds b h mark by (Max w) told none legal seen = absurd (is_off false refl (subst (λ j. IsTrue (is_told_word j)) (is_ask n s v k w b mark by legal) told))

-- ---- one step there
other_load : (n : Machine) (s : ℕ) (r : Request) (F : Finding) (v k : ℕ) (a : Act) (x : ℕ) (h : Holdings) → v ≢ s → k ≢ 4 → r.destroys ≢ Some (domain_of n v) → HasReason n s r F (Vcpu v k) a x h → a ≡ Load
other_load n s r F v k Load x h off not spared why = refl
other_load n s r F v k (Cas e w) x h off not spared (inl a) = absurd (off a.0)
other_load n s r F v k (Cas e w) x h off not spared (inr a) = absurd (spared a)
other_load n s r F v k (Store w) x h off not spared (inl a) = absurd (off a.0)
other_load n s r F v k (Store w) x h off not spared (inr a) = absurd (spared a)
other_load n s r F v k (Add w) x h off not spared (inl a) = absurd (off a.0)
other_load n s r F v k (Add w) x h off not spared (inr a) = absurd (spared a)
other_load n s r F v k (Max w) x h off not spared why = absurd (not why.0)

kind_load : (n : Machine) (s : ℕ) (r : Request) (F : Finding) (f : ℕ) (a : Act) (x : ℕ) (h : Holdings) → IsUnasked r f → HasReason n s r F (Kind f) a x h → a ≡ Load
kind_load n s r F f Load x h not why = refl
kind_load n s r F f (Cas e w) x h not (inl a) = absurd (unasked_for n s r F f a.0 _ not a.1)
kind_load n s r F f (Cas e w) x h not (inr a) = absurd (unasked n s r F f not a.1)
kind_load n s r F f (Store w) x h not why = absurd (unasked n s r F f not why.0)
kind_load n s r F f (Add w) x h not why = absurd (unasked n s r F f not why)
kind_load n s r F f (Max w) x h not why = absurd why

-- a place at which a step that changes the word would have a reason that is none
load_there : (n : Machine) (s : ℕ) (r : Request) (F : Finding) (p : Place) (a : Act) (x : ℕ) (h : Holdings) → ((b : Act) → Reason n s r F p b x h → ⊥) → HasReason n s r F p a x h → a ≡ Load
load_there n s r F p Load x h none why = refl
load_there n s r F p (Cas e w) x h none why = absurd (none (Cas e w) why)
load_there n s r F p (Store w) x h none why = absurd (none (Store w) why)
load_there n s r F p (Add w) x h none why = absurd (none (Add w) why)
load_there n s r F p (Max w) x h none why = absurd (none (Max w) why)

load_stays : (a : Act) (x : ℕ) → a ≡ Load → left_by a x ≡ x
unfolding left_by
load_stays a x e = subst (λ b. left_by b x ≡ x) (sym e) refl

step_stays : (n : Machine) (s : ℕ) (r : Request) (F : Finding) (ds : List Deed) (b h : Holdings) (mark : Option Mark) (by : StepKind) (q : Place) (a : Act) (x : ℕ) → IsLeftAlone n s r ds q → HasReason n s r F q a x h → LegalAs n s b q a mark by →
    ((d : Deed) → Member d (deeds_by q a by x h) → Member d ds) → left_by a x ≡ x
step_stays n s r F ds b h mark by q a x (life d not) why legal seen = load_stays a x (load_there n s r F (Life d) a x h (λ c y. not y) why)
step_stays n s r F ds b h mark by q a x (privilege d not) why legal seen = load_stays a x (load_there n s r F (Priv d) a x h (λ c y. not y) why)
step_stays n s r F ds b h mark by q a x (other v k off not spared) why legal seen = load_stays a x (other_load n s r F v k a x h off not spared why)
step_stays n s r F ds b h mark by q a x (word v k told none) why legal seen = word_stays n s v k x ds b h mark by a told none legal seen
step_stays n s r F ds b h mark by q a x (refs f not) why legal seen = load_stays a x (load_there n s r F (Refs f) a x h (λ c y. unasked n s r F f not y.0) why)
step_stays n s r F ds b h mark by q a x (kind f not) why legal seen = load_stays a x (kind_load n s r F f a x h not why)
step_stays n s r F ds b h mark by q a x (m2p f not) why legal seen = load_stays a x (load_there n s r F (M2p f) a x h (λ c y. unasked n s r F f not y) why)
step_stays n s r F ds b h mark by q a x (cell f i not) why legal seen = load_stays a x (load_there n s r F (Cell f i) a x h (λ c y. unasked n s r F f not y) why)
step_stays n s r F ds b h mark by q a x (map k not) why legal seen = load_stays a x (load_there n s r F (Map k) a x h (λ c y. unasked n s r F y.0 (not y.0 y.1) y.2) why)
step_stays n s r F ds b h mark by q a x (pages d none not) why legal seen = load_stays a x (load_there n s r F (Pages d) a x h (λ c y. uncounted n s r F d none not y.0) why)

-- ---- all of them
module _ (v : PortValue) (r : Request) (F : Finding) (ds : List Deed) (q : Place) (away : IsLeftAlone v.post.machine v.post.vcpu r ds q) (telling : is_telling v ≡ true) where
  -- the step there
  moved_stays : (u w : PortValue) (ms : List Moment) (m : Moment) → Ran v ms u → MovesBy u w m → q ≡ m.place → HasReason v.post.machine v.post.vcpu r F m.place m.act m.found m.hand →
      ((d : Deed) → Member d (deeds_by m.place m.act m.kind m.found m.hand) → Member d ds) → told_word w q ≡ told_word u q
  moved_stays u w ms m ran by here why seen =
      let tells : is_telling u ≡ true = ran_telling v u ms ran ∙ telling in
      let legal = subst (λ (o : Post). LegalAs o.machine o.vcpu (after_mark o.machine m.mark u.holdings) m.place m.act m.mark m.kind) (ran_post v u ms ran) by.moves.may.act in
      let same = step_stays v.post.machine v.post.vcpu r F ds _ m.hand m.mark m.kind m.place m.act m.found (subst (λ p. IsLeftAlone v.post.machine v.post.vcpu r ds p) here away) why legal seen in
      ap (told_word w) here ∙ told_here u w m.place m.act m.kind m.mark m.found by.moves tells ∙ same
      ∙ sym (told_there u w m.place m.act m.kind m.mark m.found by.moves tells) ∙ ap (told_word u) (sym here)

  all_stay : (w : PortValue) (ms : List Moment) → Ran v ms w → EachOf (λ m. HasReason v.post.machine v.post.vcpu r F m.place m.act m.found m.hand) ms → ((d : Deed) → Member d (deeds ms) → Member d ds) → told_word w q ≡ told_word v q
  unfolding EachOf
  all_stay w [] ran why seen = ap (λ (y : PortValue). told_word y q) ran
  all_stay w (m ∷ ms) ran why seen =
      elim (same_or_other q m.place) [
        | inl here ↦ moved_stays ran.0 w ms m ran.1 ran.2 here why.0 (λ d at. seen d (in_right d (marked_by m.mark) _ (in_left d _ (deeds ms) at)))
            ∙ all_stay ran.0 ms ran.1 why.1 (λ d at. seen d (in_right d (marked_by m.mark) _ (in_right d _ (deeds ms) at)))
        | inr off ↦ told_elsewhere ran.0 w m.place m.act m.kind m.mark m.found ran.2.moves q off
            ∙ all_stay ran.0 ms ran.1 why.1 (λ d at. seen d (in_right d (marked_by m.mark) _ (in_right d _ (deeds ms) at)))
      ]

pub left_alone : (v w : PortValue) (r : Request) (ds : List Deed) (q : Place) → is_telling v ≡ true → Serves v w r ds → IsLeftAlone v.post.machine v.post.vcpu r ds q → told_word w q ≡ told_word v q
unfolding Serves
left_alone v w r ds q telling serves away =
    all_stay v r (Met v w) ds q away telling w serves.0 serves.1.ran serves.1.reasons (λ d at. subst (λ es. Member d es) serves.1.deeds_are at)
