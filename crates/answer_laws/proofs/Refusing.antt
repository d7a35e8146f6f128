-- Answers that no steps license.
use Rattle.std.proofs.Common.{◌≡◌, ℕ, ◌<◌, ◌≤◌, false, Some, None, sym, ap, ◌∙◌, subst, inl, inr, arith, true}
use Rattle.xp_words.specs.declared.place.Place.TheVariants.{Refs, Kind}
use Rattle.xp_words.specs.declared.kind.PageType.{PageType}
use Rattle.xp_words.specs.declared.reply.Pause.TheVariants.{Busy, Flush}
use Rattle.xp_words.specs.declared.reply.Refusal.TheVariants.{CountFull, OtherType}
use Rattle.xp_words.specs.declared.reply.Stop.TheVariants.{Refused, Paused}
use Rattle.xp_board.specs.declared.holdings.Holdings.{Holdings}
use Rattle.xp_board.specs.Hands.{refs_to, typed_hand, typed_to, work_on}
use Rattle.xp_board.specs.Knowledge.{knows_owner}
use Rattle.xp_words.specs.Places.{sizes_of}
use Rattle.xp_board.specs.Told.{PortValue}
use Rattle.step_maker.specs.Moves.{Moment, Met}
use Rattle.step_maker.specs.Answers.{Stops}
use Rattle.step_maker.specs.Asked.{Request, of_frame, Asked, named, demanded, entered, walked, context, of_old, doomed, Passed, checked, given, old, stands}
use Rattle.step_maker.specs.Pauses.{AskedTo, IsElsewhere}
use Rattle.answer_laws.proofs.Meeting.{nobody_in_the_way}

never : (a b : ℕ) → a < b → b ≤ a → ⊥
never a b x y = omega (arith, x, y)

pub own_refs : (v w : PortValue) (r : Request) (f x : ℕ) → ((m : Moment) → Met v w m → m.place ≡ Refs f → m.found ≡ x → (r.entries ≡ true → work_on f m.hand.works ≡ None) × (refs_to f v.holdings.refs < refs_to f m.hand.refs)) →
    Stops v w r (Refused (CountFull f x)) → ⊥
unfolding Stops
own_refs v w r f x more stops =
    let a = stops.4 in
    let above = more a.moment a.was a.place a.word in
    let most = subst (λ (h : Holdings). refs_to f h.refs ≤ refs_to f v.holdings.refs) (sym a.hand) (stops.6.refs (λ asks. subst (λ (h : Holdings). work_on f h.works ≡ None) a.hand (above.0 asks))) in
    never _ _ above.1 most

pub own_types : (v w : PortValue) (r : Request) (f x : ℕ) → r.entries ≡ false → ((m : Moment) → Met v w m → m.place ≡ Refs f → m.found ≡ x → typed_hand f v.holdings < typed_hand f m.hand) →
    Stops v w r (Refused (CountFull f x)) → ⊥
unfolding Stops
own_types v w r f x plain more stops =
    let a = stops.4 in
    let above = more a.moment a.was a.place a.word in
    let most = subst (λ (h : Holdings). typed_hand f h ≤ typed_hand f v.holdings) (sym a.hand) (stops.6.typed plain) in
    never _ _ above most

pub own_work : (v w : PortValue) (r : Request) (f x : ℕ) → r.destroys ≡ None → ((m : Moment) → Met v w m → m.place ≡ Kind f → m.found ≡ x → IsElsewhere f m.hand → ⊥) →
    Stops v w r (Paused (Busy f x)) → ⊥
unfolding Stops
own_work v w r f x alive works stops = by_case stops
  where
    by_case : Stops v w r (Paused (Busy f x)) → ⊥
    by_case (inl b) = let a = b.4 in works a.moment a.was a.place a.word (subst (IsElsewhere f) (sym a.hand) b.8)
    by_case (inr b) = absurd (nobody_in_the_way v.post.machine r (Met v w) f x alive b)

pub waits : (v w : PortValue) (r : Request) (u stamp x : ℕ) → Stops v w r (Paused (Flush u stamp x)) → AskedTo stamp (Met v w) u
unfolding Stops
waits v w r u stamp x stops = stops.1.asked

pub foreign : (v w : PortValue) (f owner : ℕ) (t : PageType) (x : ℕ) →
    ((m : Moment) → Met v w m → m.place ≡ Kind f → m.found ≡ x → (knows_owner (sizes_of v.post.machine) f owner m.hand ≡ false) × (typed_to f m.hand.typed ≡ 0)) →
    Stops v w (of_frame f owner (Some t)) (Refused (OtherType f t x)) → ⊥
unfolding Stops
foreign v w f owner t x off stops = by_case stops
  where
    its : (o : ℕ) → Asked v.post.machine v.post.vcpu (of_frame f owner (Some t)) (Met v w) f o (Some t) → o ≡ owner
    its o (named a b c) = b
    its o (demanded q i y h e a b c) = absurd cc
    its o (entered q i y l m e a b c d g k j) = absurd cc
    its o (walked q i y a b c d e) = absurd cc
    its o (context q k y z a b c d e i) = absurd cc
    its o (of_old q k y z a b c d e g i j l) = absurd cc
    its o (doomed d y a b c e g) = absurd cc

    not_passed : (h : Holdings) → knows_owner (sizes_of v.post.machine) f owner h ≡ false → typed_to f h.typed ≡ 0 → Passed v.post.machine (of_frame f owner (Some t)) (Met v w) f owner h → ⊥
    not_passed h unknown none (checked a) = cc
    not_passed h unknown none (given k a b) = never _ _ a (let z = none in omega (arith, z))
    not_passed h unknown none (old q k y a b c d) = cc
    not_passed h unknown none (stands u i y e a b c d j) = cc

    by_case : Stops v w (of_frame f owner (Some t)) (Refused (OtherType f t x)) → ⊥
    by_case (inl b) =
        let a = b.3 in
        let no = off a.moment a.was a.place a.word in
        not_passed b.1 (ap (knows_owner (sizes_of v.post.machine) f owner) (sym a.hand) ∙ no.0) (ap (λ (h : Holdings). typed_to f h.typed) (sym a.hand) ∙ no.1)
        (subst (λ o. Passed v.post.machine (of_frame f owner (Some t)) (Met v w) f o b.1) (its b.0 b.2) b.4)
    by_case (inr b) = absurd (let no = b.1.1 in cc)
