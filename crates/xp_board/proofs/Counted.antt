-- What is counted of each frame: the recorded entries and the words of vCPUs that name it.
use Rattle.std.proofs.Common.{nat_lt, inl, inr, ◌≡◌, ◌≢◌, ℕ, ◌+◌, ◌<◌, ◌≤◌, Bool, true, false, Option, refl, ap, arith, IsTrue, if◌then◌else◌, add-one, subst, Some, None}
use Rattle.std.proofs.lemmas.Bool.{cases_Bool}
use Rattle.std.proofs.lemmas.Bool.Decides.{nat_tests}
use Rattle.xp_words.specs.declared.entry.Demand.TheVariants.{Nothing, Bad, Read, Typed}
use Rattle.xp_words.specs.KindWords.{kind_fields}
use Rattle.xp_words.specs.PageTypes.{is_table}
use Rattle.xp_words.specs.Machine.{Machine}
use Rattle.xp_words.specs.declared.place.Place.{Place}
use Rattle.xp_words.specs.declared.place.Place.TheVariants.{Vcpu, Refs, Kind}
use Rattle.xp_words.specs.Places.{Sizes, sizes_of, is_place}
use Rattle.xp_board.specs.Readings.{kind_at, is_context, ref_count, type_count, allocated_mark}
use Rattle.xp_board.specs.Hands.{hand, typed_hand, refs_to, typed_to, locks_on}
use Rattle.xp_board.specs.Recorded.{names, CountsAgree, work_of, held, held_of, names_typed, entry_demand, table_entries, entries, contexts, HasType}
use Rattle.xp_board.specs.Sound.{Spelled, Sound}
use Rattle.xp_board.proofs.Sums.{hands-part, hands-fewer, sum_below-fewer, one_at-same, one_is, sum_below-one, sum_below-part, sum_below-same}
use Rattle.xp_words.specs.declared.kind.PageType.{PageType}
use Rattle.xp_words.specs.declared.entry.Demand.{Demand}
use Rattle.xp_board.specs.declared.holdings.Holdings.{Holdings}
use Rattle.xp_board.specs.Sums.{sum_below}
use Rattle.xp_board.specs.Lists.{one_at}
use Rattle.xp_board.proofs.HeldByForm.{held_table}

table_entries-same : (c : Demand → ℕ) (m m2 : Place → ℕ) (o o2 : Option ℕ) (f : ℕ) → held_of (kind_at m2 f) o2 ≡ held_of (kind_at m f) o →
    ((i : ℕ) → i < held_of (kind_at m f) o → entry_demand m2 f i ≡ entry_demand m f i) → table_entries c m2 o2 f ≡ table_entries c m o f
unfolding table_entries
table_entries-same c m m2 o o2 f k e = rw k (sum_below-same _ _ _ (λ i b. ap c (e i b)))

pub entries-same : (c : Demand → ℕ) (z : Sizes) (m m2 : Place → ℕ) (h h2 : ℕ → Holdings) → ((f : ℕ) → held z m2 h2 f ≡ held z m h f) →
    ((f i : ℕ) → i < held z m h f → entry_demand m2 f i ≡ entry_demand m f i) → entries c z m2 h2 ≡ entries c z m h
unfolding entries
entries-same c z m m2 h h2 k e = sum_below-same _ _ _ (λ f b. table_entries-same c m m2 _ _ f (k f) (e f))

-- the entries of all tables but one are as they were
pub entries-one : (c : Demand → ℕ) (z : Sizes) (m m2 : Place → ℕ) (h h2 : ℕ → Holdings) (f : ℕ) → f < z.frames →
    ((g : ℕ) → g ≢ f → held z m2 h2 g ≡ held z m h g) → ((g i : ℕ) → g ≢ f → i < held z m h g → entry_demand m2 g i ≡ entry_demand m g i) →
    entries c z m2 h2 + table_entries c m (work_of z.vcpus h f) f ≡ entries c z m h + table_entries c m2 (work_of z.vcpus h2 f) f
unfolding entries
entries-one c z m m2 h h2 f b k e =
    sum_below-one z.frames (λ g. table_entries c m2 (work_of z.vcpus h2 g) g) (λ g. table_entries c m (work_of z.vcpus h g) g) f b
    (λ g off. table_entries-same c m m2 _ _ g (k g off) (λ i l. e g i off l))

-- one entry more
pub table_entries-more : (c : Demand → ℕ) (m : Place → ℕ) (o o2 : Option ℕ) (f r : ℕ) → held_of (kind_at m f) o ≡ r → held_of (kind_at m f) o2 ≡ r + 1 →
    table_entries c m o2 f ≡ table_entries c m o f + c (entry_demand m f r)
unfolding table_entries sum_below
table_entries-more c m o o2 f r a b = rw (a, b, add-one) refl

-- one entry changes
pub table_entries-changed : (c : Demand → ℕ) (m m2 : Place → ℕ) (o o2 : Option ℕ) (f i : ℕ) → held_of (kind_at m2 f) o2 ≡ held_of (kind_at m f) o →
    i < held_of (kind_at m f) o → ((j : ℕ) → j ≢ i → entry_demand m2 f j ≡ entry_demand m f j) →
    table_entries c m2 o2 f + c (entry_demand m f i) ≡ table_entries c m o f + c (entry_demand m2 f i)
unfolding table_entries
table_entries-changed c m m2 o o2 f i k b e =
    rw k (sum_below-one _ (λ j. c (entry_demand m2 f j)) (λ j. c (entry_demand m f j)) i b (λ j off. ap c (e j off)))

-- each recorded entry counts
pub entries-part : (c : Demand → ℕ) (z : Sizes) (m : Place → ℕ) (h : ℕ → Holdings) (f i : ℕ) → f < z.frames → i < held z m h f → c (entry_demand m f i) ≤ entries c z m h
unfolding entries table_entries
entries-part c z m h f i b l =
    let table = sum_below-part _ (λ j. c (entry_demand m f j)) i l in
    let all = sum_below-part z.frames (λ g. table_entries c m (work_of z.vcpus h g) g) f b in
    omega arith

-- what counts there asks a type of the frame
pub names_typed-asks : (g : ℕ) (d : Demand) → 0 < names_typed g d → (t : PageType) × (d ≡ Typed g t)
unfolding names_typed
names_typed-asks g Nothing some = absurd (omega arith)
names_typed-asks g Bad some = absurd (omega arith)
names_typed-asks g (Read f) some = absurd (omega arith)
names_typed-asks g (Typed f t) some = (t, ap (λ x. Typed x t) (one_is g f some))

pub names_typed-typed : (g : ℕ) (t : PageType) (d : Demand) → d ≡ Typed g t → names_typed g d ≡ 1
unfolding names_typed
names_typed-typed g t d e = rw e (one_at-same g)

-- ---- words of vCPUs
pub not_context : (j k : ℕ) → is_context j ≡ false → IsTrue (is_context k) → k ≡ j → ⊥
not_context j k off u e = let t : is_context j ≡ true = subst (λ y. is_context y ≡ true) e u in cc

context_same : (z : Sizes) (m m2 : Place → ℕ) (g v k : ℕ) (t : Bool) → is_context k ≡ t → ((v k : ℕ) → IsTrue (is_context k) → m2 (Vcpu v k) ≡ m (Vcpu v k)) →
    (if t then one_at (g + 1) (m2 (Vcpu v k)) else 0) ≡ (if t then one_at (g + 1) (m (Vcpu v k)) else 0)
context_same z m m2 g v k true at e = ap (one_at (g + 1)) (e v k at)
context_same z m m2 g v k false at e = refl

pub contexts-same : (z : Sizes) (m m2 : Place → ℕ) (g : ℕ) → ((v k : ℕ) → IsTrue (is_context k) → m2 (Vcpu v k) ≡ m (Vcpu v k)) → contexts z m2 g ≡ contexts z m g
unfolding contexts
contexts-same z m m2 g e = sum_below-same _ _ _ (λ v b. sum_below-same _ _ _ (λ k l. context_same z m m2 g v k (is_context k) refl e))

-- one word changes
pub contexts-one : (z : Sizes) (m m2 : Place → ℕ) (g v k : ℕ) → v < z.vcpus → k < 38 → IsTrue (is_context k) →
    ((w j : ℕ) → Vcpu w j ≢ Vcpu v k → m2 (Vcpu w j) ≡ m (Vcpu w j)) →
    contexts z m2 g + one_at (g + 1) (m (Vcpu v k)) ≡ contexts z m g + one_at (g + 1) (m2 (Vcpu v k))
unfolding contexts
contexts-one z m m2 g v k a b t e =
    let inner =
    sum_below-one 38 (λ j. if is_context j then one_at (g + 1) (m2 (Vcpu v j)) else 0) (λ j. if is_context j then one_at (g + 1) (m (Vcpu v j)) else 0) k b
    (λ j off. ap (λ w. if is_context j then one_at (g + 1) w else 0) (e v j (λ at. off (cc))))
    in
    let outer =
    sum_below-one z.vcpus (λ w. sum_below 38 (λ j. if is_context j then one_at (g + 1) (m2 (Vcpu w j)) else 0))
    (λ w. sum_below 38 (λ j. if is_context j then one_at (g + 1) (m (Vcpu w j)) else 0)) v a
    (λ w off. sum_below-same 38 _ _ (λ j l. ap (λ y. if is_context j then one_at (g + 1) y else 0) (e w j (λ at. off (cc)))))
    in
    let was : (if is_context k then one_at (g + 1) (m (Vcpu v k)) else 0) ≡ one_at (g + 1) (m (Vcpu v k)) = rw t refl in
    let is : (if is_context k then one_at (g + 1) (m2 (Vcpu v k)) else 0) ≡ one_at (g + 1) (m2 (Vcpu v k)) = rw t refl in
    omega arith

-- each word that names a frame counts
pub contexts-part : (z : Sizes) (m : Place → ℕ) (g v k : ℕ) → v < z.vcpus → k < 38 → IsTrue (is_context k) → m (Vcpu v k) ≡ g + 1 → 0 < contexts z m g
unfolding contexts
contexts-part z m g v k a b t e =
    let inner = sum_below-part 38 (λ j. if is_context j then one_at (g + 1) (m (Vcpu v j)) else 0) k b in
    let outer = sum_below-part z.vcpus (λ w. sum_below 38 (λ j. if is_context j then one_at (g + 1) (m (Vcpu w j)) else 0)) v a in
    let here : (if is_context k then one_at (g + 1) (m (Vcpu v k)) else 0) ≡ 1 = rw (t, e) (one_at-same (g + 1)) in
    omega arith

pub names-read : (g : ℕ) (d : Demand) → d ≡ Read g → names g d ≡ 1
unfolding names
names-read g d e = rw e (one_at-same g)

-- ---- no frame has more typed references than references
pub names_typed-fewer : (g : ℕ) (d : Demand) → names_typed g d ≤ names g d
unfolding names names_typed
names_typed-fewer g Nothing = omega arith
names_typed-fewer g Bad = omega arith
names_typed-fewer g (Read f) = omega arith
names_typed-fewer g (Typed f t) = omega arith

pub entries-fewer : (z : Sizes) (m : Place → ℕ) (h : ℕ → Holdings) (g : ℕ) → entries (names_typed g) z m h ≤ entries (names g) z m h
unfolding entries table_entries
entries-fewer z m h g =
    sum_below-fewer z.frames _ _ (λ f. sum_below-fewer (held_of (kind_at m f) (work_of z.vcpus h f)) _ _ (λ i. names_typed-fewer g (entry_demand m f i)))

typed_part : (g : ℕ) (u : Holdings) → typed_hand g u ≤ hand g u
unfolding hand
typed_part g u = omega arith

pub type_below : (z : Sizes) (m : Place → ℕ) (h : ℕ → Holdings) (g : ℕ) → CountsAgree z m h → type_count (kind_at m g) ≤ ref_count (m (Refs g))
type_below z m h g k =
    let a = k.refs g in
    let b = k.types g in
    let c = entries-fewer z m h g in
    let d = hands-fewer (typed_hand g) (hand g) z h (typed_part g) in
    omega arith

-- ---- what is in hand is counted
pub hand_is : (g : ℕ) (u : Holdings) → hand g u ≡ refs_to g u.refs + typed_hand g u
unfolding hand
hand_is g u = refl

pub typed_hand_is : (g : ℕ) (u : Holdings) → typed_hand g u ≡ typed_to g u.typed + locks_on g u.locks
unfolding typed_hand
typed_hand_is g u = refl

pub refs_in_hand : (f : ℕ) (u : Holdings) → refs_to f u.refs ≤ hand f u
unfolding hand
refs_in_hand f u = omega arith

-- an untyped reference in hand is one beside the allocated mark
pub in_hand_counted : (z : Sizes) (m : Place → ℕ) (h : ℕ → Holdings) (s f : ℕ) → s < z.vcpus → CountsAgree z m h → 0 < refs_to f (h s).refs →
    allocated_mark (m (Refs f)) + 1 ≤ ref_count (m (Refs f))
in_hand_counted z m h s f b k r =
    let all = k.refs f in
    let mine = refs_in_hand f (h s) in
    let part = hands-part (hand f) z h s b in
    omega arith

typed_in_hand : (f : ℕ) (u : Holdings) → typed_to f u.typed + locks_on f u.locks ≤ typed_hand f u
unfolding typed_hand
typed_in_hand f u = omega arith

pub typed_counted : (z : Sizes) (m : Place → ℕ) (h : ℕ → Holdings) (s f : ℕ) → s < z.vcpus → CountsAgree z m h → typed_to f (h s).typed + locks_on f (h s).locks ≤ type_count (kind_at m f)
typed_counted z m h s f b k =
    let all = k.types f in
    let mine = typed_in_hand f (h s) in
    let part = hands-part (typed_hand f) z h s b in
    omega arith

-- ---- the tables of which entries are recorded are frames of the machine
pub table_inside : (n : Machine) (m : Place → ℕ) (f : ℕ) → Spelled n m → IsTrue (is_table (kind_at m f).kind) → f < (sizes_of n).frames
unfolding is_place kind_fields
table_inside n m f spelled k =
    elim (cases_Bool (nat_lt f n.frames)) [
      | inl there ↦ grind (arith, nat_tests)
      | inr out ↦
          let none : m (Kind f) ≡ 0 = spelled.outside (Kind f) out in
          let t : IsTrue (is_table (kind_fields 0).kind) = rw none at k in
          absurd (cc)
    ]

pub held_inside : (n : Machine) (m : Place → ℕ) (h : ℕ → Holdings) (f i : ℕ) → Spelled n m → i < held (sizes_of n) m h f → f < (sizes_of n).frames
held_inside n m h f i spelled l = table_inside n m f spelled (held_table (kind_at m f) _ i l)

-- a recorded entry that is read is counted
pub plain_counted : (n : Machine) (m : Place → ℕ) (h : ℕ → Holdings) (f i g : ℕ) → Sound n m h → i < held (sizes_of n) m h f → entry_demand m f i ≡ Read g →
    0 < ref_count (m (Refs g))
plain_counted n m h f i g sound l e =
    let b = held_inside n m h f i sound.spelled l in
    let a = entries-part (names g) (sizes_of n) m h f i b l in
    let o = names-read g (entry_demand m f i) e in
    let k = sound.counts.refs g in
    omega arith

-- ---- what stays the same
-- a frame whose word stays keeps its type
pub has_type-same : (m m2 : Place → ℕ) (g : ℕ) (o : Option PageType) → m2 (Kind g) ≡ m (Kind g) → HasType m g o → HasType m2 g o
has_type-same m m2 g (Some t) same e = rw same e
has_type-same m m2 g None same e = tt

pub typed_hand-same : (g : ℕ) (u v : Holdings) → typed_to g v.typed ≡ typed_to g u.typed → locks_on g v.locks ≡ locks_on g u.locks → typed_hand g v ≡ typed_hand g u
typed_hand-same g u v typed locks = let p = typed_hand_is g u in let q = typed_hand_is g v in omega arith
