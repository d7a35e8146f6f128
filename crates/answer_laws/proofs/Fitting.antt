-- What each step of a piece that fits is like.
use Rattle.std.proofs.Common.{◌≡◌, ◌≢◌, ◌⊎◌, ℕ, ◌==◌, if◌then◌else◌, false, List, [], ◌∷◌, Option, Some, None, refl, sym, subst, inl, inr, arith}
use Rattle.std.proofs.lemmas.Bool.{cases_Bool, and_parts}
use Rattle.xp_words.specs.declared.place.Place.{Place}
use Rattle.xp_words.specs.declared.place.Place.TheVariants.{Clock, Pages, Life, Vcpu, Refs, Kind, M2p, Cell, Map, Priv}
use Rattle.xp_words.specs.KindWords.{kind_read, kind_fields}
use Rattle.xp_words.specs.declared.kind.PageType.{PageType}
use Rattle.xp_board.specs.declared.step.Act.{Act}
use Rattle.xp_board.specs.declared.step.Act.TheVariants.{Load, Cas, Store, Add, Max}
use Rattle.xp_board.specs.declared.step.Mark.{Mark}
use Rattle.xp_board.specs.declared.step.StepKind.{StepKind}
use Rattle.xp_board.specs.declared.step.StepKind.TheVariants as steps
use Rattle.xp_board.specs.declared.holdings.Holdings.{Holdings}
use Rattle.xp_board.specs.Acts.{left_by}
use Rattle.xp_board.specs.Hands.{work_on, typed_hand}
use Rattle.xp_board.specs.KindSteps.{AllowsKindStore}
use Rattle.xp_board.specs.Legal.{LegalAs}
use Rattle.xp_board.specs.Lists.{EachOf, Member}
use Rattle.xp_board.specs.Marks.{after_mark}
use Rattle.xp_board.specs.Readings.{allocated_mark, is_free}
use Rattle.xp_board.specs.Told.{PortValue}
use Rattle.step_maker.specs.Moves.{Moment, Met}
use Rattle.step_maker.specs.Answers.{Deed, Piece, Misses, Returns, SetsPrivilege, deeds, deeds_by, marked_by, exchanged, exchanged_as, missed_at}
use Rattle.step_maker.specs.Asked.{Request, of_frame, IsFor, Asked, named, demanded, entered, walked, context, of_old, doomed, IsAsked, of, back}
use Rattle.step_maker.specs.Finding.{Finding}
use Rattle.step_maker.specs.Reasons.{IsFlushedNext, MayFlush, MayAskFor, HasReason}
use Rattle.step_maker.proofs.Members.{in_left, in_right}
use Rattle.xp_words.specs.Machine.{Machine}
use Rattle.xp_board.proofs.EntryWords.{type_same}
use Rattle.xp_board.proofs.Sums.{when_eq}
use Rattle.xp_board.proofs.PlaceTests.{equal_by}
use Rattle.answer_laws.proofs.Meeting.{none_some, member_may}

pub each_at : {A : Type 0} (P : A → Type 0) (xs : List A) (x : A) → EachOf P xs → Member x xs → P x
unfolding EachOf Member
each_at P [] x all at = absurd at
each_at P (y ∷ ys) x all (inl e) = subst P e all.0
each_at P (y ∷ ys) x all (inr at) = each_at P ys x all.1 at

module _ (v w : PortValue) (r : Request) (ds : List Deed) (ms : List Moment) (m : Moment) (piece : Piece v w r ds ms) (at : Member m ms) where
  reason_of : HasReason v.post.machine v.post.vcpu r (Met v w) m.place m.act m.found m.hand
  reason_of = each_at _ ms m piece.reasons at

  reason_at : (p : Place) (a : Act) → m.place ≡ p → m.act ≡ a → HasReason v.post.machine v.post.vcpu r (Met v w) p a m.found m.hand
  reason_at p a is by = subst (λ b. HasReason v.post.machine v.post.vcpu r (Met v w) p b m.found m.hand) by (subst (λ q. HasReason v.post.machine v.post.vcpu r (Met v w) q m.act m.found m.hand) is reason_of)

-- ---- kinds
-- a call on one frame asks of that one alone, and for its own type alone
its_frame : (n : Machine) (s f owner : ℕ) (want : Option PageType) (F : Finding) (g o : ℕ) (k : Option PageType) → Asked n s (of_frame f owner want) F g o k → (g ≡ f) × IsFor k want
its_frame n s f owner want F g o k (named a b c) = (equal_by g f a, c)
its_frame n s f owner want F g o k (demanded i j w h e a b c) = absurd cc
its_frame n s f owner want F g o k (entered i j w l m e a b c d q p u) = absurd cc
its_frame n s f owner want F g o k (walked i j w a b c d e) = absurd cc
its_frame n s f owner want F g o k (context q j w x a b c d e i) = absurd cc
its_frame n s f owner want F g o k (of_old q j w x a b c d e i p u l) = absurd cc
its_frame n s f owner want F g o k (doomed d x a b c e i) = absurd cc

its_asked : (n : Machine) (s f owner : ℕ) (want : Option PageType) (F : Finding) (g : ℕ) → IsAsked n s (of_frame f owner want) F g → g ≡ f
its_asked n s f owner want F g (of o k a) = (its_frame n s f owner want F g o k a).0
its_asked n s f owner want F g (back a) = absurd cc

same_type : (t u : PageType) → ◌≡◌ {A = Option PageType} (Some t) (Some u) → t ≡ u
same_type t u e = cc

-- it exchanges a kind word for that type alone
by_exchange : (n : Machine) (s f owner : ℕ) (want : Option PageType) (F : Finding) (g e y x : ℕ) (h : Holdings) → HasReason n s (of_frame f owner want) F (Kind g) (Cas e y) x h →
    (g ≡ f) × (want ≡ Some (kind_fields y).kind)
by_exchange n s f owner want F g e y x h (inl b) = its_frame n s f owner want F g b.0 _ b.1
by_exchange n s f owner want F g e y x h (inr b) = absurd (let off = b.0 in cc)

-- and makes no step but a load at another one
elsewhere_load : (n : Machine) (s f owner : ℕ) (want : Option PageType) (F : Finding) (g : ℕ) (a : Act) (x : ℕ) (h : Holdings) → g ≢ f → HasReason n s (of_frame f owner want) F (Kind g) a x h → a ≡ Load
elsewhere_load n s f owner want F g Load x h off why = refl
elsewhere_load n s f owner want F g (Cas e y) x h off why = absurd (off (by_exchange n s f owner want F g e y x h why).0)
elsewhere_load n s f owner want F g (Store y) x h off why = absurd (off (its_asked n s f owner want F g why.0))
elsewhere_load n s f owner want F g (Add y) x h off why = absurd (off (its_asked n s f owner want F g why))
elsewhere_load n s f owner want F g (Max y) x h off why = absurd why

pub others_stay : (v w : PortValue) (f owner : ℕ) (want : Option PageType) (ds : List Deed) (ms : List Moment) (m : Moment) (g : ℕ) → Piece v w (of_frame f owner want) ds ms → Member m ms → m.place ≡ Kind g → g ≢ f → m.act ≡ Load
others_stay v w f owner want ds ms m g piece at is off = elsewhere_load _ _ f owner want (Met v w) g m.act m.found m.hand off (reason_at v w _ ds ms m piece at (Kind g) m.act is refl)

pub asked_type : (v w : PortValue) (f owner : ℕ) (t : PageType) (ds : List Deed) (ms : List Moment) (m : Moment) (g e x : ℕ) → Piece v w (of_frame f owner (Some t)) ds ms → Member m ms → m.place ≡ Kind g → m.act ≡ Cas e x →
    (g ≡ f) × ((kind_fields x).kind ≡ t)
asked_type v w f owner t ds ms m g e x piece at is by =
    let a = by_exchange _ _ f owner (Some t) (Met v w) g e x m.found m.hand (reason_at v w _ ds ms m piece at (Kind g) (Cas e x) is by) in
    (a.0, sym (same_type t (kind_fields x).kind a.1))

pub no_exchange : (v w : PortValue) (f owner : ℕ) (ds : List Deed) (ms : List Moment) (m : Moment) (g e x : ℕ) → Piece v w (of_frame f owner None) ds ms → Member m ms → m.place ≡ Kind g → m.act ≡ Cas e x → ⊥
no_exchange v w f owner ds ms m g e x piece at is by =
    let a = by_exchange _ _ f owner None (Met v w) g e x m.found m.hand (reason_at v w _ ds ms m piece at (Kind g) (Cas e x) is by) in
    none_some None (kind_fields x).kind refl a.1

pub store_keeps : (v w : PortValue) (r : Request) (ds : List Deed) (ms : List Moment) (m : Moment) (g x : ℕ) → Piece v w r ds ms → Member m ms → m.place ≡ Kind g → m.act ≡ Store x →
    (kind_fields x).kind ≡ (kind_fields m.found).kind
store_keeps v w r ds ms m g x piece at is by =
    let why = reason_at v w r ds ms m piece at (Kind g) (Store x) is by in
    sym (type_same (kind_fields m.found).kind (kind_fields x).kind (and_parts _ _ why.1).0)

-- ---- kind words by the hand
-- a kind word is exchanged, or it is one of a frame that is in work, typed or locked
unheld : (n : Machine) (s g : ℕ) (h : Holdings) (a : Act) (mark : Option Mark) (by : StepKind) → LegalAs n s h (Kind g) a mark by → work_on g h.works ≡ None → typed_hand g h ≡ 0 →
    (a ≡ Load) ⊎ ((e : ℕ) × (w : ℕ) × (a ≡ Cas e w))
unfolding typed_hand
unheld n s g h Load mark by legal idle none = inl refl
unheld n s g h (Cas e w) mark by legal idle none = inr (e, w, refl)
unheld n s g h (Store w) mark steps.Kind legal idle none = absurd (subst (λ o. AllowsKindStore n g h o (kind_read w)) idle legal)
unheld n s g h (Add w) mark steps.Kind (inl a) idle none = let k = a.1.in_hand in absurd (omega (arith, k, none))
unheld n s g h (Add w) mark steps.Kind (inr a) idle none = let k = a.1 in absurd (omega (arith, k, none))
unheld n s g h (Max w) mark steps.Kind legal idle none = absurd legal
unheld n s g h a mark by legal idle none = absurd legal

pub no_kind : (v w : PortValue) (f owner : ℕ) (ds : List Deed) (ms : List Moment) (m : Moment) (g : ℕ) → Piece v w (of_frame f owner None) ds ms → Member m ms → m.place ≡ Kind g →
    work_on g (after_mark v.post.machine m.mark m.hand).works ≡ None → typed_hand g (after_mark v.post.machine m.mark m.hand) ≡ 0 → m.act ≡ Load
no_kind v w f owner ds ms m g piece at is idle none =
    let may = member_may v w ms m piece.ran at in
    let legal = subst (λ p. LegalAs v.post.machine v.post.vcpu (after_mark v.post.machine m.mark m.hand) p m.act m.mark m.kind) is may.act in
    elim (unheld v.post.machine v.post.vcpu g (after_mark v.post.machine m.mark m.hand) m.act m.mark m.kind legal idle none) [
      | inl load ↦ load
      | inr by ↦ absurd (no_exchange v w f owner ds ms m g by.0 by.1 piece at is by.2)
    ]

-- ---- deeds
-- a deed of one step is one of the piece
deed_in : (ms : List Moment) (m : Moment) (d : Deed) → Member m ms → Member d (deeds_by m.place m.act m.kind m.found m.hand) → Member d (deeds ms)
unfolding Member
deed_in [] m d at by = absurd at
deed_in (y ∷ ms) m d (inl e) by =
    in_right d (marked_by y.mark) _
    (in_left d _ (deeds ms) (subst (λ (z : Moment). Member d (deeds_by z.place z.act z.kind z.found z.hand)) (sym e) by))
deed_in (y ∷ ms) m d (inr at) by = in_right d (marked_by y.mark) _ (in_right d _ (deeds ms) (deed_in ms m d at by))

is_first : (d : Deed) → Member d (d ∷ [])
unfolding Member
is_first d = inl refl

-- but for a tick of the clock and a life word a lost exchange is one of the deeds
misses_is : (p : Place) → p ≢ Clock → ((d : ℕ) → p ≢ Life d) → missed_at p ≡ Misses p ∷ []
misses_is Clock tick life = absurd (tick refl)
misses_is (Life d) tick life = absurd (life d refl)
misses_is (Pages d) tick life = refl
misses_is (Vcpu v k) tick life = refl
misses_is (Refs f) tick life = refl
misses_is (Kind f) tick life = refl
misses_is (M2p f) tick life = refl
misses_is (Cell f i) tick life = refl
misses_is (Map k) tick life = refl
misses_is (Priv d) tick life = refl

pub all_found : (v w : PortValue) (r : Request) (ds : List Deed) (ms : List Moment) (m : Moment) (e x : ℕ) → Piece v w r ds ms → Member m ms → m.place ≢ Clock → ((d : ℕ) → m.place ≢ Life d) → m.act ≡ Cas e x →
    (m.found ≡ e) ⊎ Member (Misses m.place) ds
all_found v w r ds ms m e x piece at tick life by =
    elim (cases_Bool (m.found == e)) [
      | inl on ↦ inl (equal_by m.found e on)
      | inr off ↦ inr (subst (λ es. Member (Misses m.place) es) piece.deeds_are (deed_in ms m (Misses m.place) at
          (subst (λ a. Member (Misses m.place) (deeds_by m.place a m.kind m.found m.hand)) (sym by)
          (subst (λ b. Member (Misses m.place) (if b then exchanged_as m.kind m.place e x else missed_at m.place)) (sym off)
          (subst (λ es. Member (Misses m.place) es) (sym (misses_is m.place tick life)) (is_first (Misses m.place)))))))
    ]

-- a walk sets no bit of a reference word
ref_exchange : (n : Machine) (s f e x : ℕ) (h : Holdings) (mark : Option Mark) (by : StepKind) → LegalAs n s h (Refs f) (Cas e x) mark by → exchanged_as by (Refs f) e x ≡ exchanged (Refs f) e x
ref_exchange n s f e x h mark steps.Ref legal = refl
ref_exchange n s f e x h mark by legal = absurd legal

pub returned : (v w : PortValue) (r : Request) (ds : List Deed) (ms : List Moment) (m : Moment) (f e x : ℕ) → Piece v w r ds ms → Member m ms → m.place ≡ Refs f → m.act ≡ Cas e x → m.found ≡ e →
    allocated_mark e ≡ 1 → allocated_mark x ≡ 0 → Member (Returns f) ds
returned v w r ds ms m f e x piece at is by finds was now =
    let n = v.post.machine in
    let s = v.post.vcpu in
    let may = member_may v w ms m piece.ran at in
    let h = after_mark n m.mark m.hand in
    let legal : LegalAs n s h (Refs f) (Cas e x) m.mark m.kind =
    subst (λ a. LegalAs n s h (Refs f) a m.mark m.kind) by (subst (λ p. LegalAs n s h p m.act m.mark m.kind) is may.act) in
    let one : Member (Returns f) (exchanged (Refs f) e x) = rw (was, now) (is_first (Returns f)) in
    let same : Member (Returns f) (exchanged_as m.kind (Refs f) e x) = subst (λ es. Member (Returns f) es) (sym (ref_exchange n s f e x h m.mark m.kind legal)) one in
    let deed : Member (Returns f) (deeds_by (Refs f) (Cas e x) m.kind m.found m.hand) = subst (λ b. Member (Returns f) (if b then exchanged_as m.kind (Refs f) e x else missed_at (Refs f))) (sym (when_eq m.found e finds)) same in
    subst (λ es. Member (Returns f) es) piece.deeds_are (deed_in ms m (Returns f) at
    (subst (λ p. Member (Returns f) (deeds_by p m.act m.kind m.found m.hand)) (sym is) (subst (λ a. Member (Returns f) (deeds_by (Refs f) a m.kind m.found m.hand)) (sym by) deed)))

-- nor of a word of privileges
priv_exchange : (n : Machine) (s d e x : ℕ) (h : Holdings) (mark : Option Mark) (by : StepKind) → LegalAs n s h (Priv d) (Cas e x) mark by → exchanged_as by (Priv d) e x ≡ exchanged (Priv d) e x
priv_exchange n s d e x h mark steps.Priv legal = refl
priv_exchange n s d e x h mark by legal = absurd legal

pub privileges : (v w : PortValue) (r : Request) (ds : List Deed) (ms : List Moment) (m : Moment) (d e x : ℕ) → Piece v w r ds ms → Member m ms → m.place ≡ Priv d → m.act ≡ Cas e x → m.found ≡ e →
    (r.grants ≡ Some d) × Member (SetsPrivilege d x) ds
privileges v w r ds ms m d e x piece at is by finds =
    let n = v.post.machine in
    let s = v.post.vcpu in
    let may = member_may v w ms m piece.ran at in
    let h = after_mark n m.mark m.hand in
    let legal : LegalAs n s h (Priv d) (Cas e x) m.mark m.kind =
    subst (λ a. LegalAs n s h (Priv d) a m.mark m.kind) by (subst (λ p. LegalAs n s h p m.act m.mark m.kind) is may.act) in
    let its = SetsPrivilege d x in
    let same : Member its (exchanged_as m.kind (Priv d) e x) = subst (λ es. Member its es) (sym (priv_exchange n s d e x h m.mark m.kind legal)) (is_first its) in
    let deed : Member its (deeds_by (Priv d) (Cas e x) m.kind m.found m.hand) = subst (λ b. Member its (if b then exchanged_as m.kind (Priv d) e x else missed_at (Priv d))) (sym (when_eq m.found e finds)) same in (
      reason_at v w r ds ms m piece at (Priv d) (Cas e x) is by,
      subst (λ es. Member its es) piece.deeds_are (deed_in ms m its at
          (subst (λ p. Member its (deeds_by p m.act m.kind m.found m.hand)) (sym is) (subst (λ a. Member its (deeds_by (Priv d) a m.kind m.found m.hand)) (sym by) deed))),
    )

pub claims : (v w : PortValue) (r : Request) (ds : List Deed) (ms : List Moment) (m : Moment) (f e x : ℕ) → r.pages ≡ None → Piece v w r ds ms → Member m ms → m.place ≡ Refs f → m.act ≡ Cas e x → is_free e ≡ false
claims v w r ds ms m f e x none piece at is by =
    let why = reason_at v w r ds ms m piece at (Refs f) (Cas e x) is by in
    elim (cases_Bool (is_free e)) [
      | inl on ↦ absurd (let k = why.1 on in none_some r.pages k.0 none k.1)
      | inr off ↦ off
    ]

-- ---- flushes
pub flushes : (v w : PortValue) (r : Request) (ds : List Deed) (ms : List Moment) (m : Moment) (x : ℕ) → Piece v w r ds ms → Member m ms → r.destroys ≡ None → m.place ≡ Vcpu v.post.vcpu 5 → m.act ≡ Store x →
    MayFlush v.post.machine v.post.vcpu r (Met v w) m.hand
flushes v w r ds ms m x piece at alive is by = by_case (reason_at v w r ds ms m piece at (Vcpu v.post.vcpu 5) (Store x) is by)
  where
    by_case : HasReason v.post.machine v.post.vcpu r (Met v w) (Vcpu v.post.vcpu 5) (Store x) m.found m.hand → MayFlush v.post.machine v.post.vcpu r (Met v w) m.hand
    by_case (inl (a, inl b)) = absurd (b refl)
    by_case (inl (a, inr b)) = b
    by_case (inr b) = absurd (none_some r.destroys _ alive b)

pub asks : (v w : PortValue) (r : Request) (ds : List Deed) (ms : List Moment) (m : Moment) (u k stamp : ℕ) → Piece v w r ds ms → Member m ms → m.place ≡ Vcpu u k → m.act ≡ Max stamp →
    MayAskFor v.post.machine v.post.vcpu r (Met v w) u k stamp m.hand
asks v w r ds ms m u k stamp piece at is by = reason_at v w r ds ms m piece at (Vcpu u k) (Max stamp) is by

pub clock_flushed : (v w : PortValue) (r : Request) (ds : List Deed) (ms : List Moment) (m : Moment) (e x : ℕ) → Piece v w r ds ms → Member m ms → m.place ≡ Clock → m.act ≡ Cas e x →
    IsFlushedNext v.post.vcpu (Met v w) (left_by (Cas e x) m.found) m.hand
clock_flushed v w r ds ms m e x piece at is by = (reason_at v w r ds ms m piece at Clock (Cas e x) is by).1
