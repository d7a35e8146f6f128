-- On a machine with one vCPU nothing of others is in the way.
use Rattle.std.proofs.Common.{◌≡◌, ◌≢◌, ℕ, ◌<◌, ◌&&◌, nat_lt, Some, None, length, IsTrue, sym, ap, ◌∙◌, subst, inl, inr, arith}
use Rattle.std.proofs.lemmas.Bool.Decides.{nat_tests}
use Rattle.xp_words.specs.Machine.{Machine}
use Rattle.xp_words.specs.declared.place.Place.{Place}
use Rattle.xp_words.specs.declared.place.Place.TheVariants.{Kind, Vcpu}
use Rattle.xp_words.specs.Places.{sizes_of, is_place}
use Rattle.xp_words.specs.declared.reply.Pause.TheVariants.{Busy, Flush, Alive}
use Rattle.xp_words.specs.declared.reply.Stop.TheVariants.{Paused}
use Rattle.xp_board.specs.declared.holdings.Holdings.{Holdings}
use Rattle.xp_board.specs.Readings.{domain_of}
use Rattle.xp_board.specs.Told.{Post, PortValue, Finds}
use Rattle.step_maker.specs.Moves.{Met}
use Rattle.step_maker.proofs.Coming.{came_post}
use Rattle.step_maker.specs.Answers.{Stops}
use Rattle.step_maker.specs.Asked.{Request}
use Rattle.step_maker.specs.Pauses.{IsElsewhere, found_busy}
use Rattle.answer_laws.proofs.Holding.{nobody_busies}
use Rattle.answer_laws.proofs.Meeting.{nobody_in_the_way, found_finds, found_real}

one_of : (n s t : ℕ) → n ≡ 1 → s < n → t < n → t ≡ s
one_of n s t one a b = omega (arith, one, a, b)

-- a busy word is that of a frame in the own works or under the own entry lock
mine : (n : Machine) (s : ℕ) (h : Holdings) (f x : ℕ) → length n.vcpu_domain ≡ 1 → Finds n s h (Kind f) x → IsTrue (found_busy x) → IsElsewhere f h → ⊥
mine n s h f x one finds busy off =
    nobody_busies n finds.words finds.hands f finds.sound.alone
    (λ t real. subst (λ (k : Holdings). IsElsewhere f k) (sym finds.mine ∙ ap finds.hands (sym (one_of (length n.vcpu_domain) s t one finds.real real))) off)
    (subst (λ y. IsTrue (found_busy y)) (sym finds.word) busy)

pub never_busy : (v w : PortValue) (r : Request) (f x : ℕ) → length v.post.machine.vcpu_domain ≡ 1 → r.destroys ≡ None → Stops v w r (Paused (Busy f x)) → ⊥
unfolding Stops
never_busy v w r f x one alive stops = by_case stops
  where
    by_case : Stops v w r (Paused (Busy f x)) → ⊥
    by_case (inl b) = mine v.post.machine v.post.vcpu b.2 f x one (found_finds v w (Kind f) x b.2 b.4) b.6 b.8
    by_case (inr b) = nobody_in_the_way v.post.machine r (Met v w) f x alive b

pub never_waits : (v w : PortValue) (r : Request) (u stamp x : ℕ) → length v.post.machine.vcpu_domain ≡ 1 → Stops v w r (Paused (Flush u stamp x)) → ⊥
unfolding Stops
never_waits v w r u stamp x one stops =
    let found = stops.1.running in
    stops.1.other (one_of (length v.post.machine.vcpu_domain) v.post.vcpu u one (found_real v w (Vcpu u 6) 0 found) stops.1.real)

in_range : (v k n : ℕ) → IsTrue (nat_lt v n && nat_lt k 38) → v < n
in_range v k n is = grind (arith, nat_tests)

pub never_alive : (v w : PortValue) (r : Request) (u x : ℕ) → length v.post.machine.vcpu_domain ≡ 1 → r.destroys ≢ Some (domain_of v.post.machine v.post.vcpu) → Stops v w r (Paused (Alive u x)) → ⊥
unfolding Stops is_place
never_alive v w r u x one apart stops =
    let a = stops.1 in
    let met = a.was in
    let place = subst (λ (q : Place). IsTrue (is_place (sizes_of met.from.post.machine) q)) a.place met.moved.moves.may.place in
    let at : IsTrue (is_place (sizes_of v.post.machine) (Vcpu u 6)) = subst (λ (q : Post). IsTrue (is_place (sizes_of q.machine) (Vcpu u 6))) (came_post v met.from met.before) place in
    let real = in_range u 6 (length v.post.machine.vcpu_domain) at in
    let own = one_of (length v.post.machine.vcpu_domain) v.post.vcpu u one (found_real v w (Vcpu u 6) x a) real in
    apart (stops.0 ∙ ap (λ t. Some (domain_of v.post.machine t)) own)
