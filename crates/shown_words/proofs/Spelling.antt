-- A word of a frame that a refusal shows was found by a step, so it is a spelling.
use Rattle.std.proofs.Common.{◌≡◌, ℕ, ◌<◌, Option, Some, None, IsTrue, refl, subst, arith, inl, inr}
use Rattle.std.proofs.lemmas.Bool.Decides.{nat_tests}
use Rattle.xp_words.specs.Machine.{Machine}
use Rattle.xp_words.specs.RefWords.{ref_read}
use Rattle.xp_words.specs.declared.refs.RefWord.{RefWord}
use Rattle.xp_board.specs.Spelling.{IsSpelling, is_ref_in}
use Rattle.xp_words.specs.Places.{Sizes, is_place, sizes_of}
use Rattle.xp_words.specs.declared.place.Place.{Place}
use Rattle.xp_words.specs.declared.place.Place.TheVariants.{Kind, Refs}
use Rattle.xp_words.specs.declared.reply.Refusal.{Refusal}
use Rattle.xp_words.specs.declared.reply.Refusal.TheVariants.{AlreadyPinned, BadCommand, BadDescriptor, BadRange, BatchLong, Clock, CountFull, DomainFull, Dying, InUse, NoDomain, NoFrame, NoFree, NoPrivilege, NonCanonical, NotMapped, NotPinned, OtherType, ReadOnly, Reserved, Slot, WrongOwner}
use Rattle.xp_words.specs.declared.reply.Stop.TheVariants.{Refused}
use Rattle.xp_board.specs.Told.{Post, PortValue}
use Rattle.xp_board.specs.declared.holdings.Holdings.{Holdings}
use Rattle.step_maker.specs.Answers.{Stops}
use Rattle.step_maker.specs.Asked.{Request}
use Rattle.step_maker.specs.Finding.{FoundAt, FoundWith}
use Rattle.step_maker.specs.Moves.{Met}
use Rattle.step_maker.proofs.Coming.{came_post}
use Rattle.kind_words.proofs.KindFacts.{kind_found}
use Rattle.answer_laws.proofs.Meeting.{found_finds}
use Rattle.shown_words.specs.Shown.{IsSpelledKind, IsSpelledRef}

abbrev pub ShowsSpelled : Refusal → Type 0
ShowsSpelled (WrongOwner f y) = IsSpelledRef y
ShowsSpelled (OtherType f want y) = IsSpelledKind y
ShowsSpelled (AlreadyPinned y) = IsSpelledKind y
ShowsSpelled (NotPinned y) = IsSpelledKind y
ShowsSpelled _ = Unit {0}

-- a kind word that was found is of a frame of the machine
frame_inside : (z : Sizes) (f : ℕ) → IsTrue (is_place z (Kind f)) → f < z.frames
unfolding is_place
frame_inside z f is = grind (arith, nat_tests)

-- so it is a spelling
with_spelled : (v w : PortValue) (f x : ℕ) (h : Holdings) → FoundWith (Met v w) (Kind f) x h → IsSpelledKind x
with_spelled v w f x h a =
    let met = a.was in
    let place = subst (λ (q : Place). IsTrue (is_place (sizes_of met.from.post.machine) q)) a.place met.moved.moves.may.place in
    let inside = frame_inside (sizes_of v.post.machine) f (subst (λ (q : Post). IsTrue (is_place (sizes_of q.machine) (Kind f))) (came_post v met.from met.before) place) in
    let is = kind_found v.post.machine v.post.vcpu h f x inside (found_finds v w (Kind f) x h a) in
    (is.kind, is.read)

at_spelled : (v w : PortValue) (f x : ℕ) → FoundAt (Met v w) (Kind f) x → IsSpelledKind x
at_spelled v w f x a = with_spelled v w f x a.moment.hand (record { moment = a.moment; was = a.was; place = a.place; word = a.word; hand = refl })

-- and so is a reference word
ref_by : (n : Machine) (o : Option RefWord) → IsTrue (is_ref_in n o) → (r : RefWord) × (o ≡ Some r)
ref_by n None is = absurd cc
ref_by n (Some r) is = (r, refl)

ref_spelled : (v w : PortValue) (f x : ℕ) → FoundAt (Met v w) (Refs f) x → IsSpelledRef x
unfolding IsSpelling
ref_spelled v w f x a =
    let met = a.was in
    let finds = found_finds v w (Refs f) x a.moment.hand (record { moment = a.moment; was = a.was; place = a.place; word = a.word; hand = refl }) in
    let place = subst (λ (q : Post). IsTrue (is_place (sizes_of q.machine) (Refs f))) (came_post v met.from met.before) (subst (λ (q : Place). IsTrue (is_place (sizes_of met.from.post.machine) q)) a.place met.moved.moves.may.place) in
    ref_by v.post.machine (ref_read x) (subst (λ y. IsSpelling v.post.machine (Refs f) y) finds.word (finds.sound.spelled.spelled (Refs f) place))

pub shown_spelled : (v w : PortValue) (r : Request) (x : Refusal) → Stops v w r (Refused x) → ShowsSpelled x
unfolding Stops
shown_spelled v w r (OtherType f want y) stops = by stops
  where
    by : Stops v w r (Refused (OtherType f want y)) → IsSpelledKind y
    by (inl a) = with_spelled v w f y a.1 a.3
    by (inr a) = at_spelled v w f y a.2
shown_spelled v w r (AlreadyPinned y) stops = with_spelled v w stops.0 y stops.3 stops.5
shown_spelled v w r (NotPinned y) stops = with_spelled v w stops.0 y stops.3 stops.5
shown_spelled v w r (WrongOwner f y) stops = ref_spelled v w f y stops.3
shown_spelled v w r (NoFrame f) stops = tt
shown_spelled v w r (Reserved f i e) stops = tt
shown_spelled v w r (CountFull f y) stops = tt
shown_spelled v w r (Slot i) stops = tt
shown_spelled v w r (NotMapped level e) stops = tt
shown_spelled v w r (ReadOnly e) stops = tt
shown_spelled v w r NonCanonical stops = tt
shown_spelled v w r (NoPrivilege c d) stops = tt
shown_spelled v w r NoDomain stops = tt
shown_spelled v w r (Dying d y) stops = tt
shown_spelled v w r (DomainFull y) stops = tt
shown_spelled v w r NoFree stops = tt
shown_spelled v w r BadRange stops = tt
shown_spelled v w r (BadDescriptor f i y) stops = tt
shown_spelled v w r BadCommand stops = tt
shown_spelled v w r (Clock y) stops = tt
shown_spelled v w r BatchLong stops = tt
shown_spelled v w r (InUse f y) stops = tt
