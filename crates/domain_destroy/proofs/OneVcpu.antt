-- The words of one vCPU are found empty or emptied: what is known then, and how the phase goes on.
use Rattle.std.proofs.Common.{◌≡◌, ◌≢◌, ℕ, ◌+◌, ◌<◌, ◌==◌, Bool, true, false, List, [], ◌∷◌, length, Ok, Err, IsTrue, refl, sym, subst, inl, inr, arith}
use Rattle.std.proofs.lemmas.Bool.{cases_eq}
use Rattle.xp_words.specs.Places.{sizes_of}
use Rattle.xp_words.specs.declared.place.Place.TheVariants.{Vcpu}
use Rattle.xp_words.specs.declared.reply.Pause.TheVariants.{Due}
use Rattle.xp_words.specs.declared.reply.Stop.{Stop}
use Rattle.xp_words.specs.declared.reply.Stop.TheVariants.{Paused}
use Rattle.xp_board.specs.Readings.{domain_of, is_context}
use Rattle.xp_board.specs.Steps.{some_since}
use Rattle.xp_board.specs.Told.{Post, PortValue}
use Rattle.step_maker.specs.Holds.{Rests}
use Rattle.step_maker.specs.Moves.{Came, Met}
use Rattle.step_maker.specs.Pauses.{LeftAs}
use Rattle.step_maker.proofs.Coming.{came_post}
use Rattle.flush_words.proofs.Lasting.{came_keeps, came_longer}
use Rattle.domain_destroy.specs.Coming.{FoundEmpty}
use Rattle.domain_destroy.specs.Course as course
use Rattle.domain_destroy.specs.Course.{Advances}
use Rattle.domain_destroy.specs.Destroying.{PartWent}
use Rattle.domain_destroy.specs.Emptying.{EmptiesOne, EmptiesTo, NamesNone}
use Rattle.domain_destroy.specs.Emptying as words
use Rattle.domain_destroy.specs.declared.place.DestroyAt.TheVariants.{Empties}
use Rattle.domain_destroy.proofs.Parts.{left_since, nothing_serves, went_err, went_ok, went_same}
use Rattle.domain_destroy.proofs.Staying.{found_empty_stays, has_stopped_stays}

abbrev pub EmptyAt : PortValue → ℕ → ℕ → Type 0
EmptyAt v d k = FoundEmpty v.post.machine v.post.vcpu d k v.holdings

-- ---- more steps
pub empty_stays : (v w : PortValue) (d k : ℕ) → Came v w → EmptyAt v d k → EmptyAt w d k
empty_stays v w d k came y = subst (λ (q : Post). FoundEmpty q.machine q.vcpu d k w.holdings) (sym (came_post v w came)) (found_empty_stays v w came v.post.machine v.post.vcpu d k y)

-- ---- one more vCPU
pub empty_more : (v w : PortValue) (d k : ℕ) → Came v w → EmptyAt v d k → ((j : ℕ) → j < 38 → IsTrue (is_context j) → LeftAs (Met v w) (Vcpu k j) (λ x. x == 0)) → EmptyAt w d (k + 1)
empty_more v w d k came y all =
    subst (λ (q : Post). FoundEmpty q.machine q.vcpu d (k + 1) w.holdings) (sym (came_post v w came))
    (record {
      foreign = y.foreign;
      since = y.since;
      stopped = has_stopped_stays v w came v.post.machine v.post.vcpu d y.since y.stopped;
      order = let l = came_longer v w came in let o = y.order in omega (arith, l, o);
      empty = λ u j low real of inside is. elim (cases_eq u k) [
        | inl at ↦ subst (λ i. IsTrue (some_since (sizes_of v.post.machine) y.since (Vcpu i j) (λ x. x == 0) w.holdings.steps)) (sym at) (left_since v w (Vcpu k j) (λ x. x == 0) y.since y.order (all j inside is))
        | inr away ↦ came_keeps v w _ came (y.empty u j (let a : u ≢ k = away in omega arith) real of inside is)
      ];
    })

-- ---- by which steps
module _ (v : PortValue) (d k : ℕ) where
  -- it is another domain's
  pub other_went : Rests v → NamesNone v → domain_of v.post.machine k ≢ d → PartWent v v d (EmptiesOne d k v v [] (Ok false)) (Ok false)
  other_went rests clear off = went_same v v d (Ok false) rests clear refl (nothing_serves v d (Ok false) refl) tt tt (words.EmptiesOne.other off)

  module _ (w : PortValue) (of : domain_of v.post.machine k ≡ d) (answers : List Bool) where
    pub emptied_went : PartWent {A = Unit {0}} v w d (EmptiesTo k v w answers (Ok tt)) (Ok tt) → PartWent v w d (EmptiesOne d k v w answers (Ok true)) (Ok true)
    emptied_went p = went_ok v w d tt true p (words.EmptiesOne.emptied w answers of p.course)

    pub stopped_went : (e : Stop) → PartWent {A = Unit {0}} v w d (EmptiesTo k v w answers (Err e)) (Err e) → PartWent {A = Bool} v w d (EmptiesOne d k v w answers (Err e)) (Err e)
    stopped_went e p = went_err v w d e p (words.EmptiesOne.stopped w answers e of p.course)

-- the gate pauses it behind one of the domain's
pub emptied_due : {u w : PortValue} {d k : ℕ} {passed : Bool} → k < length u.post.machine.vcpu_domain → passed ≡ true → (more : List Bool) → EmptiesOne d k u w more (Ok passed) → Advances d u (Empties k) w (Empties (k + 1)) [] (true ∷ more) (Err (Paused Due))
emptied_due {w = w} {k = k} {passed = true} real is more one = course.Advances.emptied_due k w more real one
emptied_due {passed = false} real is more one = absurd cc
