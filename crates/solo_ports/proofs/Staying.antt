-- What a call leaves as it was beside the frames.
use Rattle.std.proofs.Common.{◌≡◌, ◌≢◌, ℕ, ◌<◌, true, List, length, Option, Some, None, IsTrue, sym, ◌∙◌, subst, arith, ◌==◌, if◌then◌else◌, Bool, false, refl}
use Rattle.std.proofs.lemmas.Bool.Decides.{nat_tests}
use Rattle.xp_words.specs.Machine.{IsMachine, Machine}
use Rattle.xp_words.specs.declared.place.Place.{Place}
use Rattle.xp_words.specs.declared.place.Place.TheVariants.{Life, M2p, Priv, Vcpu, Refs}
use Rattle.xp_board.specs.Hands.{IsEmptyHand}
use Rattle.xp_board.specs.Lists.{Member}
use Rattle.xp_board.specs.Told.{Post, PortValue, is_telling, told_word}
use Rattle.xp_board.specs.Readings.{owner_of, ref_count}
use Rattle.xp_board.specs.RefSteps.{owner_number}
use Rattle.step_maker.specs.Answers.{Deed, Serves, SetsM2p, SetsWord, is_told_word}
use Rattle.step_maker.specs.Asked.{Request}
use Rattle.step_maker.specs.Moves.{Came}
use Rattle.step_maker.proofs.Coming.{came_post}
use Rattle.step_maker.proofs.Piecing.{serves_came}
use Rattle.step_maker.specs.Plain.{Words}
use Rattle.answer_laws.proofs.Shared.{alone_telling}
use Rattle.replay_laws.specs.LeftAlone.{life, privilege, word}
use Rattle.replay_laws.proofs.Keeping.{left_alone}
use Rattle.replay_laws.proofs.Mapping.{map_stays}
use Rattle.course_laws.proofs.Awaiting.{AloneStays}
use Rattle.table_words.specs.OldWords.{old_place}
use Rattle.table_words.specs.declared.old_words.OldWord.TheVariants.{Second}
use Rattle.table_law.specs.Plain.{Plain}
use Rattle.script_law.specs.Shown.{IsShownWord}
use Rattle.script_law.specs.Shown as shown
use Rattle.script_law.specs.Values.{Solo, with_frames}
use Rattle.frame_words.specs.Plain.{lowered, put, set_free}
use Rattle.solo_ports.specs.Standing.{IsQuiet, IsUnkept, ShowsOthers, Stands}

pub told_of : (k : ℕ) → IsShownWord k → IsTrue (is_told_word k)
told_of k (shown.base low) = grind (arith, nat_tests)
told_of k (shown.tables some most) = grind (arith, nat_tests)

no_other : (o : Option ℕ) (d : ℕ) → o ≡ None → o ≢ Some d
no_other o d none is = let e = sym none ∙ is in absurd cc

-- ---- one word each
module _ (v w : PortValue) (r : Request) (ds : List Deed) (telling : is_telling v ≡ true) (serves : Serves v w r ds) where
  pub life_stays : (d : ℕ) → r.destroys ≡ None → told_word w (Life d) ≡ told_word v (Life d)
  life_stays d none = left_alone v w r ds (Life d) telling serves (life d (no_other r.destroys d none))

  pub privilege_stays : (d : ℕ) → r.grants ≡ None → told_word w (Priv d) ≡ told_word v (Priv d)
  privilege_stays d none = left_alone v w r ds (Priv d) telling serves (privilege d (no_other r.grants d none))

  pub own_stays : (k : ℕ) → IsShownWord k → ((x : ℕ) → Member (SetsWord v.post.vcpu k x) ds → ⊥) → told_word w (Vcpu v.post.vcpu k) ≡ told_word v (Vcpu v.post.vcpu k)
  own_stays k is none = left_alone v w r ds (Vcpu v.post.vcpu k) telling serves (word v.post.vcpu k (told_of k is) none)

  pub mapped_stays : (f : ℕ) → IsEmptyHand v.holdings → r.pages ≡ None → ((x : ℕ) → Member (SetsM2p f x) ds → ⊥) → told_word w (M2p f) ≡ told_word v (M2p f)
  mapped_stays f empty pages none = map_stays v w r ds f telling serves empty.claimed pages none

  -- ---- all of them
  pub others_stay : (x : Solo) → IsEmptyHand v.holdings → IsQuiet v.post.vcpu r ds → ShowsOthers v.post.machine v.post.vcpu (told_word v) x → ShowsOthers v.post.machine v.post.vcpu (told_word w) x
  others_stay x empty quiet o =
      record {
        maps = λ f inside. o.maps f inside ∙ sym (mapped_stays f empty quiet.pages (quiet.maps f));
        own = λ k is. o.own k is ∙ sym (own_stays k is (quiet.own k));
        privileges = λ d real. o.privileges d real ∙ sym (privilege_stays d quiet.grants);
        lives = λ d real. o.lives d real ∙ sym (life_stays d quiet.destroys);
      }

-- with other frames
pub others_with : (n : Machine) (s : ℕ) (m : Place → ℕ) (x : Solo) (p : Plain) → ShowsOthers n s m x → ShowsOthers n s m (with_frames p x)
others_with n s m x p o = record { maps = o.maps; own = o.own; privileges = o.privileges; lives = o.lives }

-- a port behind steps, by what is said of it
pub stands_at : AloneStays → (v w : PortValue) (x y : Solo) → Stands v x → Came v w → IsEmptyHand w.holdings → told_word w (old_place v.post.vcpu Second) ≡ 0 → ShowsOthers v.post.machine v.post.vcpu (told_word w) y → IsUnkept v.post.machine y.frames → Stands w y
stands_at stays v w x y s came empty second others unkept =
    let post = came_post v w came in
    record {
      machine = subst (λ (p : Post). IsMachine p.machine) (sym post) s.machine;
      alone = stays v w s.alone came;
      only = subst (λ (p : Post). length p.machine.vcpu_domain ≡ 1) (sym post) s.only;
      real = subst (λ (p : Post). p.vcpu < length p.machine.vcpu_domain) (sym post) s.real;
      empty = empty;
      second = subst (λ (p : Post). told_word w (old_place p.vcpu Second) ≡ 0) (sym post) second;
      others = subst (λ (p : Post). ShowsOthers p.machine p.vcpu (told_word w) y) (sym post) others;
      unkept = subst (λ (p : Post). IsUnkept p.machine y.frames) (sym post) unkept;
    }

-- behind a call that is quiet, with other frames
pub stands_stay : AloneStays → (v w : PortValue) (x : Solo) (p : Plain) (r : Request) (ds : List Deed) → Stands v x → Serves v w r ds → IsQuiet v.post.vcpu r ds → IsEmptyHand w.holdings → told_word w (old_place v.post.vcpu Second) ≡ 0 → IsUnkept v.post.machine p → Stands w (with_frames p x)
stands_stay stays v w x p r ds s serves quiet empty second unkept =
    stands_at stays v w x (with_frames p x) s (serves_came v w r ds serves) empty second
    (others_with v.post.machine v.post.vcpu (told_word w) x p (others_stay v w r ds (alone_telling v s.alone) serves x s.empty quiet s.others)) unkept

-- ---- a reference that is given back leaves own words
put_by : (b : Bool) (f owner s k : ℕ) (m : Words) → (if b then set_free f owner (lowered f m) else lowered f m) (Vcpu s k) ≡ m (Vcpu s k)
put_by true f owner s k m = refl
put_by false f owner s k m = refl

pub put_word : (f s k : ℕ) (m : Words) → put f m (Vcpu s k) ≡ m (Vcpu s k)
put_word f s k m = put_by (ref_count (m (Refs f)) == 1) f (owner_number (owner_of (m (Refs f)))) s k m
