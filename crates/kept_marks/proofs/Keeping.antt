-- A frame that is left with its mark, and what follows: which steps, and what they serve.
use Rattle.std.proofs.Common.{◌≡◌, ◌≢◌, ℕ, ◌+◌, ◌==◌, Bool, true, false, arith, [], ◌∷◌, None, IsTrue, refl, sym, ap, ◌∙◌, subst, inl, inr}
use Rattle.std.proofs.lemmas.Bool.Decides.{nat_tests}
use Rattle.xp_words.specs.KindWords.{kind_write}
use Rattle.xp_words.specs.declared.kind.KindWord.{KindWord}
use Rattle.xp_words.specs.declared.place.Place.TheVariants.{Kind, Life}
use Rattle.xp_board.specs.declared.step.Act.TheVariants.{Cas, Load, Store}
use Rattle.xp_board.specs.declared.step.StepKind.TheVariants as kinds
use Rattle.xp_board.specs.Readings.{domain_of, is_partial}
use Rattle.xp_board.specs.Told.{Post, PortValue}
use Rattle.step_maker.specs.Moves.{Came, Moves}
use Rattle.step_maker.proofs.Coming.{came_post, came_trans, moves_came}
use Rattle.step_maker.specs.Answers.{Misses}
use Rattle.step_maker.proofs.Piecing.{serves_came}
use Rattle.kind_words.specs.Kinds.{MayLeave}
use Rattle.table_words.specs.OldWords.{old_place}
use Rattle.table_words.specs.declared.old_words.OldWord.TheVariants.{First}
use Rattle.kept_marks.specs.Marks.{IsForeign, IsUnpaged, KeptFor, ServesKept, TakesBack, alive, dying, taken, unkept_kind}
use Rattle.kept_marks.proofs.Serving.{asked_later, back_serves, left_serves, looked_serves, lost_serves, named_serves}

-- ---- whether its domain lives
pub is_alive : (b : Bool) (life : ℕ) → b ≡ true → b ≡ (life == 0) → life ≡ 0
is_alive b life on is = grind (arith, nat_tests)

pub is_dying : (b : Bool) (life : ℕ) → b ≡ false → b ≡ (life == 0) → life ≢ 0
is_dying b life off is = grind (arith, nat_tests)

-- ---- whose the frame is
pub foreign_on : (u v : PortValue) (owner : ℕ) → Came u v → IsForeign v owner → IsForeign u owner
foreign_on u v owner came foreign = subst (λ (p : Post). owner ≢ domain_of p.machine p.vcpu) (came_post u v came) foreign

-- the domain of a vCPU stays
pub foreign_by : (v a : PortValue) (owner o : ℕ) → Came v a → owner ≢ o → o ≡ domain_of a.post.machine a.post.vcpu → IsForeign v owner
foreign_by v a owner o came off is = foreign_on v a owner came (λ same. off (same ∙ sym is))

module _ (v a : PortValue) (f : ℕ) (k : KindWord) (owner : ℕ) (leaves : MayLeave v f k) (partial : IsTrue (is_partial k)) (found : ℕ) (store : Moves v a (Kind f) (Store (kind_write k)) kinds.Kind None found) where
  left_came : Came v a
  left_came = moves_came v a (Kind f) (Store (kind_write k)) kinds.Kind None found store

  pub own_serves : ServesKept v a f owner
  own_serves = λ u r ds before asked locks. record { more = []; hidden = inl refl; serves = left_serves v a f k leaves partial found store u r ds before asked }

  module _ (x : PortValue) (life : ℕ) (look : Moves a x (Life owner) Load kinds.Look None life) where
    looked_came : Came v x
    looked_came = came_trans v a x left_came (moves_came a x (Life owner) Load kinds.Look None life look)

    pub alive_serves : ServesKept v x f owner
    alive_serves = λ u r ds before asked locks. record { more = []; hidden = inl refl; serves = looked_serves v a f k leaves partial found store u r ds before asked x owner life look }

    pub alive_course : IsForeign v owner → life ≡ 0 → KeptFor v x f k owner
    alive_course foreign lives = alive a foreign (found, store) (subst (λ y. Moves a x (Life owner) Load kinds.Look None y) lives look)

    module _ (foreign : IsForeign v owner) (page : IsUnpaged k) (y : PortValue) (word : ℕ) (try : Moves x y (Kind f) (Cas (kind_write k) (kind_write (unkept_kind k))) kinds.Kind None word) where
      tried_came : Came v y
      tried_came = came_trans v x y looked_came (moves_came x y (Kind f) (Cas (kind_write k) (kind_write (unkept_kind k))) kinds.Kind None word try)

      pub taken_serves : word ≢ kind_write k → ServesKept v y f owner
      taken_serves off = λ u r ds before asked locks.
          record {
            more = Misses (Kind f) ∷ [];
            hidden = inr (foreign_on u v owner (serves_came u v r ds before) foreign, refl);
            serves = lost_serves u x y r f k leaves.is partial page word try (locks foreign) (asked_later u v y r f tried_came asked) ds
                (looked_serves v a f k leaves partial found store u r ds before asked x owner life look) off;
          }

      pub taken_course : life ≢ 0 → word ≢ kind_write k → KeptFor v y f k owner
      taken_course dies off = taken a x life word foreign (found, store) look dies try off

      module _ (w : PortValue) (done : word ≡ kind_write k) (put : Moves y w (old_place y.post.vcpu First) (Store (f + 1)) kinds.Context None 0) where
        pub dying_serves : ServesKept v w f owner
        dying_serves = λ u r ds before asked locks.
            record {
              more = [];
              hidden = inl refl;
              serves = named_serves u y w r ds (f + 1)
                  (back_serves u x y r f k leaves.is partial page word try (locks foreign) (asked_later u v y r f tried_came asked) ds
                  (looked_serves v a f k leaves partial found store u r ds before asked x owner life look) done)
                  put;
            }

        pub dying_course : life ≢ 0 → KeptFor v w f k owner
        dying_course dies =
            dying a x y life foreign (found, store) look dies (subst (λ z. TakesBack x y f k z) done try)
            (subst (λ s. Moves y w (old_place s First) (Store (f + 1)) kinds.Context None 0) (ap (λ (p : Post). p.vcpu) (came_post v y tried_came)) put)
