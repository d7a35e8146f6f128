-- How a port stands behind an element that serves a request.
use Rattle.std.proofs.Common.{◌≡◌, ℕ, ◌<◌, List, length, Some, None, sym, ap, ◌∙◌, subst}
use Rattle.xp_words.specs.declared.place.Place.{Place}
use Rattle.xp_board.specs.Lists.{Member}
use Rattle.xp_board.specs.Told.{Post, PortValue, told_word}
use Rattle.step_maker.specs.Answers.{Deed, Serves, SetsM2p, SetsWord}
use Rattle.step_maker.specs.Asked.{Request}
use Rattle.step_maker.specs.Holds.{FlushedSame, Rests}
use Rattle.step_maker.specs.Moves.{Came}
use Rattle.step_maker.proofs.Alikes.{same_alike}
use Rattle.step_maker.proofs.Coming.{came_post}
use Rattle.step_maker.proofs.Piecing.{serves_came}
use Rattle.course_laws.proofs.Awaiting.{AloneStays}
use Rattle.table_words.specs.OldWords.{old_place}
use Rattle.table_words.specs.declared.old_words.OldWord.TheVariants.{First, Second}
use Rattle.table_law.specs.Plain.{Plain}
use Rattle.script_law.specs.Values.{Solo, with_frames}
use Rattle.solo_ports.specs.Standing.{Clean, IsQuiet, IsUnkept, Stands}
use Rattle.solo_ports.proofs.Along.{clean_on}
use Rattle.solo_ports.proofs.Resting.{first_known, second_known}
use Rattle.solo_ports.proofs.Staying as staying

-- no machine-to-physical word, and no word of a vCPU is set
pub record SetsNothing (ds : List Deed) : Type 0 where
  pub maps : (g x : ℕ) → Member (SetsM2p g x) ds → ⊥
  pub own : (v k x : ℕ) → Member (SetsWord v k x) ds → ⊥

-- of a request that destroys nothing, grants nothing and takes no pages
pub record IsMild (r : Request) : Type 0 where
  pub destroys : r.destroys ≡ None
  pub grants : r.grants ≡ None
  pub pages : r.pages ≡ None

pub quiet : (s : ℕ) (r : Request) (ds : List Deed) → IsMild r → SetsNothing ds → IsQuiet s r ds
quiet s r ds mild none = record { destroys = mild.destroys; grants = mild.grants; pages = mild.pages; maps = none.maps; own = λ k x. none.own s k x }

-- ---- the old words, where they are known
module _ (stays : AloneStays) (v w : PortValue) (x : Solo) (s : Stands v x) (came : Came v w) (rests : Rests w) where
  real : w.post.vcpu < length w.post.machine.vcpu_domain
  real = subst (λ (o : Post). o.vcpu < length o.machine.vcpu_domain) (sym (came_post v w came)) s.real

  pub first_there : (y : ℕ) → w.holdings.old0 ≡ Some y → told_word w (old_place w.post.vcpu First) ≡ y
  first_there y known = first_known w (stays v w s.alone came) y real rests known

  pub second_there : (y : ℕ) → w.holdings.old1 ≡ Some y → told_word w (old_place v.post.vcpu Second) ≡ y
  second_there y known = subst (λ (o : Post). told_word w (old_place o.vcpu Second) ≡ y) (came_post v w came) (second_known w (stays v w s.alone came) y real rests known)

pub first_same : (v w : PortValue) → FlushedSame v w → v.holdings.old0 ≡ Some 0 → w.holdings.old0 ≡ Some 0
first_same v w same known = ap (λ (y : PortValue). y.holdings.old0) same ∙ known

pub second_same : (v w : PortValue) → FlushedSame v w → v.holdings.old1 ≡ Some 0 → w.holdings.old1 ≡ Some 0
second_same v w same known = ap (λ (y : PortValue). y.holdings.old1) same ∙ known

-- ---- with other frames, and no word set
pub stands_stay : AloneStays → (v w : PortValue) (x : Solo) (p : Plain) (r : Request) (ds : List Deed) → Stands v x → Serves v w r ds → IsMild r → SetsNothing ds → Rests w → w.holdings.old1 ≡ Some 0 → IsUnkept v.post.machine p →
    Stands w (with_frames p x)
stands_stay stays v w x p r ds s serves mild none rests old unkept =
    staying.stands_stay stays v w x p r ds s serves (quiet v.post.vcpu r ds mild none) rests.empty (second_there stays v w x s (serves_came v w r ds serves) rests 0 old) unkept

-- ---- no word is changed
pub clean_same : AloneStays → (v w : PortValue) (x : Solo) → Clean v x → Came v w → ((q : Place) → told_word w q ≡ told_word v q) → Rests w → Clean w x
clean_same stays v w x clean came same rests = clean_on stays v w x (record { came = came; words = same_alike (told_word w) (told_word v) same; empty = rests.empty }) clean
