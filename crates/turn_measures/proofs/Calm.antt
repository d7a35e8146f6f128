-- Ports from which an acquisition may begin: the vCPU is alone, and no domain is dying.
use Rattle.std.proofs.Common.{◌≡◌, ℕ, Bool, true, List, Err, refl, sym, ◌∙◌, subst}
use Rattle.xp_words.specs.Machine.{Machine}
use Rattle.xp_words.specs.declared.place.Place.TheVariants.{Life}
use Rattle.xp_words.specs.declared.reply.Pause.{Pause}
use Rattle.xp_words.specs.declared.reply.Pause.TheVariants.{Due}
use Rattle.xp_words.specs.declared.reply.Stop.TheVariants.{Paused}
use Rattle.xp_board.specs.Told.{PortValue, is_telling, told_word}
use Rattle.step_maker.specs.Plain.{Words}
use Rattle.step_maker.proofs.Coming.{same_machine}
use Rattle.answer_laws.specs.Alone.{IsAlone}
use Rattle.answer_laws.proofs.Shared.{alone_telling}
use Rattle.table_entries.specs.Acquiring.{Acquired}
use Rattle.course_laws.proofs.Awaiting.{AloneStays}
use Rattle.frame_ranks.specs.Ranks.{AreAllAlive, GetsFurther, GoesForward}
use Rattle.turn_measures.proofs.Forward.{Comes, Still, comes_behind, still_forward}
use Rattle.turn_measures.proofs.Asides.{Passes}

pub record IsCalm (v : PortValue) : Type 0 where
  pub alone : IsAlone v
  pub alive : AreAllAlive v.post.machine (told_word v)

-- ---- behind other steps
pub alive_still : (n : Machine) (m x : Words) → Still m x → AreAllAlive n m → AreAllAlive n x
alive_still n m x s alive d real = s (Life d) refl ∙ alive d real

pub alive_on : (v w : PortValue) → Passes v w → AreAllAlive v.post.machine (told_word v) → AreAllAlive w.post.machine (told_word w)
alive_on v w p alive = subst (λ (n : Machine). AreAllAlive n (told_word w)) (sym (same_machine v w p.came)) (alive_still v.post.machine (told_word v) (told_word w) p.still alive)

pub calm_on : AloneStays → (v w : PortValue) → IsCalm v → Passes v w → IsCalm w
calm_on stays v w c p =
    record {
      alone = stays v w c.alone p.came;
      alive = alive_on v w p c.alive;
    }

pub calm_telling : (v : PortValue) → IsCalm v → is_telling v ≡ true
calm_telling v c = alone_telling v c.alone

-- ---- acquisitions
-- the law of frame_ranks: no frame falls back, and where the gate paused it, one is further
abbrev pub AcquiredForward : Type 0
AcquiredForward =
    (v w : PortValue) (f owner level : ℕ) (answers : List Bool) (x : Pause) → IsAlone v → AreAllAlive v.post.machine (told_word v) →
    Acquired v f owner level w answers (Err (Paused x)) → GoesForward v.post.machine (told_word v) (told_word w)

abbrev pub AcquiredFurther : Type 0
AcquiredFurther =
    (v w : PortValue) (f owner level : ℕ) (answers : List Bool) → IsAlone v → AreAllAlive v.post.machine (told_word v) →
    Acquired v f owner level w answers (Err (Paused Due)) → GetsFurther v.post.machine (told_word v) (told_word w)

abbrev pub ComesTo : Pause → PortValue → PortValue → Type 0
ComesTo p v w = Comes v.post.machine p (told_word v) (told_word w)

pub comes_from : (p : Pause) (v u w : PortValue) → Passes v u → ComesTo p u w → ComesTo p v w
comes_from p v u w a c =
    comes_behind v.post.machine p (told_word v) (told_word u) (told_word w) (still_forward v.post.machine (told_word v) (told_word u) a.still)
    (subst (λ (n : Machine). Comes n p (told_word u) (told_word w)) (same_machine v u a.came) c)

pub acquired_comes : AcquiredForward → AcquiredFurther → (v w : PortValue) (f owner level : ℕ) (answers : List Bool) (p : Pause) → IsCalm v → Acquired v f owner level w answers (Err (Paused p)) → ComesTo p v w
acquired_comes forward further v w f owner level answers p c a =
    record {
      forward = forward v w f owner level answers p c.alone c.alive a;
      further = λ due. further v w f owner level answers c.alone c.alive (subst (λ (x : Pause). Acquired v f owner level w answers (Err (Paused x))) due a);
    }
