-- What a moment of a piece found, and why it was legal, by the port as the piece began.
use Rattle.std.proofs.Common.{◌≡◌, ℕ, ◌<◌, List, [], ◌∷◌, Option, Some, None, sym, ◌∙◌, subst, inl, inr}
use Rattle.xp_words.specs.declared.place.Place.{Place}
use Rattle.xp_words.specs.Machine.{Machine}
use Rattle.xp_words.specs.Places.{sizes_of}
use Rattle.xp_board.specs.declared.holdings.Holdings.{Holdings}
use Rattle.xp_board.specs.Told.{Post, PortValue, Finds}
use Rattle.xp_board.specs.Legal.{LegalMove}
use Rattle.xp_board.specs.Lists.{Member}
use Rattle.step_maker.specs.Moves.{Moment, Ran, Met}
use Rattle.step_maker.proofs.Coming.{ran_post, came_post}
use Rattle.step_maker.specs.Asked.{Request}
use Rattle.step_maker.specs.Finding.{Finding, FoundAt, FoundWith}
use Rattle.step_maker.specs.Pauses.{IsInTheWay, in_use, dying}

pub none_some : {A : Type 0} (o : Option A) (x : A) → o ≡ None → o ≡ Some x → ⊥
none_some o x a b = let e = sym a ∙ b in absurd cc

-- a frame stands in the way of a destruction alone
pub nobody_in_the_way : (n : Machine) (r : Request) (F : Finding) (f x : ℕ) → r.destroys ≡ None → IsInTheWay n r F f x → ⊥
nobody_in_the_way n r F f x alive (in_use d y h a b c e i) = none_some r.destroys d alive a
nobody_in_the_way n r F f x alive (dying d a b c e) = none_some r.destroys d alive a

-- the words and hands by which it found that word
pub met_finds : (v w : PortValue) (m : Moment) → Met v w m → Finds v.post.machine v.post.vcpu m.hand m.place m.found
met_finds v w m met =
    subst (λ (q : Post). Finds q.machine q.vcpu m.hand m.place m.found) (came_post v met.from met.before)
    (subst (λ (h : Holdings). Finds met.from.post.machine met.from.post.vcpu h m.place m.found) (sym met.moved.hand) met.moved.moves.finds)

pub found_finds : (v w : PortValue) (p : Place) (x : ℕ) (h : Holdings) → FoundWith (Met v w) p x h → Finds v.post.machine v.post.vcpu h p x
found_finds v w p x h a =
    let at = met_finds v w a.moment a.was in
    subst (λ y. Finds v.post.machine v.post.vcpu h p y) a.word
    (subst (λ q. Finds v.post.machine v.post.vcpu h q a.moment.found) a.place (subst (λ (k : Holdings). Finds v.post.machine v.post.vcpu k a.moment.place a.moment.found) a.hand at))

-- a vCPU that found anything is one of the machine
pub found_real : (v w : PortValue) (p : Place) (x : ℕ) → FoundAt (Met v w) p x → v.post.vcpu < (sizes_of v.post.machine).vcpus
found_real v w p x a = (met_finds v w a.moment a.was).real

-- each step of a list was legal by the hand of its moment
pub member_may : (v w : PortValue) (ms : List Moment) (m : Moment) → Ran v ms w → Member m ms → LegalMove v.post.machine v.post.vcpu m.hand m.place m.act m.kind m.mark
unfolding Member
member_may v w [] m ran at = absurd at
member_may v w (y ∷ ms) m ran (inl e) =
    subst (λ (z : Moment). LegalMove v.post.machine v.post.vcpu z.hand z.place z.act z.kind z.mark) e
    (subst (λ (q : Post). LegalMove q.machine q.vcpu y.hand y.place y.act y.kind y.mark) (ran_post v ran.0 ms ran.1)
    (subst (λ (h : Holdings). LegalMove ran.0.post.machine ran.0.post.vcpu h y.place y.act y.kind y.mark) (sym ran.2.hand) ran.2.moves.may))
member_may v w (y ∷ ms) m ran (inr at) = member_may v ran.0 ms m ran.1 at
