-- What is in hand after the steps on a kind word, and what the next step asks.
use Rattle.std.proofs.Common.{◌≡◌, ◌≢◌, ℕ, ◌-◌, ◌<◌, ◌≤◌, ◌==◌, ◌&&◌, not, if◌then◌else◌, true, false, List, [], ◌∷◌, length, Some, None, IsTrue, refl, sym, ap, ◌∙◌, subst, arith}
use Rattle.std.proofs.lemmas.Bool.{or_left}
use Rattle.std.proofs.lemmas.Bool.Decides.{nat_tests}
use Rattle.xp_words.specs.Machine.{Machine}
use Rattle.xp_words.specs.declared.kind.KindWord.{KindWord}
use Rattle.xp_words.specs.declared.kind.PageType.{PageType}
use Rattle.xp_words.specs.declared.kind.PageType.TheVariants as types
use Rattle.xp_words.specs.declared.place.Place.TheVariants.{Clock}
use Rattle.xp_words.specs.KindWords.{is_kind, kind_fields, kind_write}
use Rattle.xp_words.specs.PageTypes.{is_none, is_table, type_number}
use Rattle.xp_words.specs.Places.{Sizes, sizes_of}
use Rattle.xp_board.specs.declared.step.Act.TheVariants.{Load, Add}
use Rattle.xp_board.specs.declared.step.StepKind.TheVariants as kinds
use Rattle.xp_board.specs.declared.holdings.Holdings.{Holdings}
use Rattle.xp_board.specs.declared.holdings.Liveness.TheVariants as lives
use Rattle.xp_board.specs.declared.holdings.OwnerFound.{OwnerFound}
use Rattle.xp_board.specs.declared.holdings.TypedReference.{TypedReference}
use Rattle.xp_board.specs.declared.holdings.Work.{Work}
use Rattle.xp_board.specs.Acts.{left_by}
use Rattle.xp_board.specs.Flushes.{IsPastFlush}
use Rattle.xp_board.specs.Hands.{changed_work, typed_to, without_typed, work_on, ref_owner, typed_owner}
use Rattle.xp_board.specs.Knowledge.{knows_live}
use Rattle.xp_board.specs.KindSteps.{begun_kind, resumed_kind, live_typed, new_work, unsettled_from, dropped}
use Rattle.xp_board.specs.Lists.{changed_by, first_by, some_of}
use Rattle.xp_board.specs.Readings.{is_dead, is_partial, is_work, is_closing}
use Rattle.xp_board.specs.RefSteps.{SparesClosing, is_closing_on, one_down}
use Rattle.xp_board.specs.Steps.{some_since}
use Rattle.xp_board.specs.Told.{Post, PortValue}
use Rattle.xp_board.proofs.KindForms.{fields_down}
use Rattle.xp_board.proofs.KindReadings.{work_alone}
use Rattle.xp_board.proofs.ListCounts.{first_by-cons_here, times_by-cons_here}
use Rattle.xp_board.proofs.Sums.{when_eq}
use Rattle.step_maker.specs.Moves.{Moves}
use Rattle.step_maker.proofs.Noting.{moves_since}
use Rattle.kind_words.specs.Kinds.{looked_at, resumed_work, IsWholeWork}
use Rattle.kind_words.proofs.KindWriting.{fields_write, begun_is, resumed_is}
use Rattle.kind_words.proofs.KindFacts.{IsFoundLive}

-- ---- the newest typed reference, and the newest work
pub typed_held : (f : ℕ) (e : TypedReference) (xs : List TypedReference) → e.frame ≡ f → 0 < typed_to f (e ∷ xs)
typed_held f e xs is = let more = times_by-cons_here (λ (y : TypedReference). y.frame) f e xs is in omega (arith, more)

same_both : (f t : ℕ) → ((f == f) && (t == t)) ≡ true
same_both f t = grind (arith, nat_tests)

live_first : (z : Sizes) (f : ℕ) (t : PageType) (o : OwnerFound) (xs : List TypedReference) (h : Holdings) → IsTrue (knows_live z f t (record h { typed = live_typed f t o ∷ xs }))
unfolding knows_live some_of
live_first z f t o xs h = or_left _ _ (or_left _ _ (same_both f (type_number t)))

-- a frame that was found or made live by the newest typed reference is known live
pub known_first : (z : Sizes) (f : ℕ) (t : PageType) (o : OwnerFound) (xs : List TypedReference) (h : Holdings) → h.typed ≡ live_typed f t o ∷ xs → IsTrue (knows_live z f t h)
known_first z f t o xs h is = subst (λ ys. IsTrue (knows_live z f t (record h { typed = ys }))) (sym is) (live_first z f t o xs h)

pub work_here : (f : ℕ) (e : Work) (xs ys : List Work) → e.frame ≡ f → ys ≡ e ∷ xs → work_on f ys ≡ Some e
work_here f e xs ys frame is = ap (λ zs. work_on f zs) is ∙ first_by-cons_here (λ y. y.frame) f e xs frame

-- no frame is in work, or the newest one is changed
pub no_work : (f : ℕ) (ws : List Work) → ws ≡ [] → work_on f ws ≡ None
unfolding first_by
no_work f ws none = ap (λ zs. work_on f zs) none

pub changed_first : (f : ℕ) (c : Work → Work) (e : Work) (es ws : List Work) → ws ≡ e ∷ es → e.frame ≡ f → changed_work f c ws ≡ c e ∷ es
unfolding changed_by
changed_first f c e es ws are is = ap (λ zs. changed_work f c zs) are ∙ ap (λ b. if b then (c e ∷ es) else (e ∷ changed_work f c es)) (when_eq e.frame f is)

-- ---- a frame that came into work
pub begun_fields : (k : KindWord) (want : PageType) → IsTrue (is_kind k) → IsTrue (is_dead k) → IsTrue (not (is_none want)) → kind_fields (kind_write (begun_kind k want)) ≡ begun_kind k want
begun_fields k want is dead wanted = fields_write (begun_kind k want) (begun_is k want is dead wanted)

pub resumed_fields : (k : KindWord) → IsTrue (is_kind k) → IsTrue (is_partial k) → kind_fields (kind_write (resumed_kind k)) ≡ resumed_kind k
resumed_fields k is partial = fields_write (resumed_kind k) (resumed_is k is partial)

-- from a `kept` mark the reference comes into the hand
pub resumed_kept : (f : ℕ) (k : KindWord) (h : Holdings) → k.kept ≡ true →
    resumed_work f k h
    ≡ record (looked_at f (kind_write (resumed_kind k)) h) {
      typed = record { frame = f; kind = Some k.kind; owner = ref_owner f h; live = lives.Since (length h.steps) } ∷ h.typed;
      works = new_work f (kind_write (resumed_kind k)) k.progress (unsettled_from k.progress h) h ∷ h.works;
    }
resumed_kept f k h on = rw on refl

pub resumed_unkept : (f : ℕ) (k : KindWord) (h : Holdings) → k.kept ≡ false →
    resumed_work f k h
    ≡ record (looked_at f (kind_write (resumed_kind k)) h) { works = new_work f (kind_write (resumed_kind k)) k.progress (unsettled_from k.progress h) h ∷ h.works }
resumed_unkept f k h off = rw off refl

-- a frame that holds no entries and no descriptors may be made live, past its flush where it is marked
pub plain_whole : (n : Machine) (f : ℕ) (want : PageType) (h : Holdings) (e : Work) → is_table want ≡ false → want ≢ types.Desc → IsTrue (is_work (kind_fields e.word)) → (kind_fields e.word).kind ≡ want →
    ((kind_fields e.word).unflushed ≡ true → IsPastFlush n h e) → IsWholeWork n f want h e
plain_whole n f want h e plain page working kind past =
    record { work = working; kind = kind; past = past; table = λ t. absurd (cc); descriptors = λ d. absurd (page d) }

pub writable_whole : (n : Machine) (f : ℕ) (h : Holdings) (e : Work) → IsTrue (is_work (kind_fields e.word)) → (kind_fields e.word).kind ≡ types.Writable →
    ((kind_fields e.word).unflushed ≡ true → IsPastFlush n h e) → IsWholeWork n f types.Writable h e
writable_whole n f h e working kind past = plain_whole n f types.Writable h e refl (λ d. absurd (cc)) working kind past

-- ---- a clock value that was found since
pub clock_since : (v w : PortValue) (c n : ℕ) → Moves v w Clock Load kinds.Look None c → n ≤ length v.holdings.steps → IsTrue (some_since (sizes_of w.post.machine) n Clock (λ y. y == c) w.holdings.steps)
unfolding left_by
clock_since v w c n m late =
    subst (λ (q : Post). IsTrue (some_since (sizes_of q.machine) n Clock (λ y. y == c) w.holdings.steps)) (sym (ap (λ (x : PortValue). x.post) m.to))
    (moves_since v w Clock Load kinds.Look None c m n (λ y. y == c) late (when_eq c c refl))

-- ---- a type count given back
only_one : (y : ℕ) → (y == 1) ≡ true → y - 1 ≡ 0
only_one y h = grind (arith, nat_tests)

pub lowered_more : (f found left : ℕ) (h : Holdings) → ((kind_fields found).number == 1) ≡ false →
    dropped f found left h ≡ record h { refs = record { frame = f; owner = typed_owner f h } ∷ h.refs; typed = without_typed f h.typed }
lowered_more f found left h more = rw more refl

-- the last one: the frame is closing in the hand
pub lowered_last : (f found left : ℕ) (h : Holdings) → ((kind_fields found).number == 1) ≡ true →
    dropped f found left h
    ≡ record h {
      refs = record { frame = f; owner = typed_owner f h } ∷ h.refs;
      typed = without_typed f h.typed;
      works = new_work f left (if is_table (kind_fields found).kind then 512 else 0) None h ∷ h.works;
    }
lowered_last f found left h last = rw last refl

pub lowered_fields : (n : Machine) (f found : ℕ) (h : Holdings) → IsFoundLive n f found h → ((kind_fields found).number == 1) ≡ true →
    kind_fields (left_by (Add one_down) found) ≡ record (kind_fields found) { number = 0 }
unfolding left_by
lowered_fields n f found h a last =
    fields_down found a.small a.some ∙ ap (λ y. record (kind_fields found) { number = y }) (only_one (kind_fields found).number last)

pub closes : (k : KindWord) → k.validated ≡ true → IsTrue (is_closing (record k { number = 0 }))
closes k live = rw live refl

-- ---- an untyped reference may be given back
pub apart_spares : (f : ℕ) (h : Holdings) → work_on f h.works ≡ None → SparesClosing f h
apart_spares f h apart closing = absurd (let off : is_closing_on (work_on f h.works) ≡ false = ap is_closing_on apart in cc)

pub work_spares : (f : ℕ) (h : Holdings) (e : Work) → work_on f h.works ≡ Some e → IsTrue (is_work (kind_fields e.word)) → SparesClosing f h
work_spares f h e here working closing =
    absurd (let off : is_closing_on (work_on f h.works) ≡ false = ap is_closing_on here ∙ work_alone (kind_fields e.word) working in cc)
