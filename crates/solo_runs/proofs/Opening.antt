-- The only vCPU of a machine opens its script.
use Rattle.std.proofs.Common.{◌≡◌, ◌<◌, ℕ, false, List, [], replicate, zero, suc, IsTrue, length, refl, sym, ap, ◌∙◌, subst, arith}
use Rattle.std.proofs.lemmas.Bool.Decides.{nat_tests}
use Rattle.xp_words.specs.KindWords.{kind_fields}
use Rattle.xp_words.specs.Machine.{Machine}
use Rattle.xp_words.specs.Places.{is_place, memory, sizes_of}
use Rattle.xp_words.specs.declared.ops.Op.{Op}
use Rattle.xp_words.specs.declared.place.Place.{Place}
use Rattle.xp_words.specs.declared.place.Place.TheVariants.{Cell, Kind, Life, M2p, Priv, Refs, Vcpu}
use Rattle.xp_board.specs.Hands.{IsEmptyHand, empty}
use Rattle.xp_board.specs.Readings.{domain_of}
use Rattle.xp_board.specs.Sound.{Sound, SoundWords, hand_of}
use Rattle.shared_board.specs.Board.{opened_story}
use Rattle.shared_board.proofs.Opened.{all_empty}
use Rattle.table_law.specs.Plain.{share_of, sober}
use Rattle.trace_text.specs.declared.trace.Trace.{Trace}
use Rattle.trace_text.specs.WellFormed.{IsWellFormed}
use Rattle.machine_build.specs.Opening.{IsOpening, opening_at}
use Rattle.script_law.specs.Shown.{IsShownWord}
use Rattle.script_law.specs.Shown as shown
use Rattle.solo_ports.specs.Standing.{Clean}
use Rattle.vcpu_runners.specs.Turns.{fresh}
use Rattle.script_laws.specs.Opening.{OpensScript}
use Rattle.solo_runs.specs.Finishing.{first_port, opening_solo}

zero_kept : (sober (kind_fields 0)).kept ≡ false
unfolding kind_fields
zero_kept = refl

pub none_in_hand : IsEmptyHand empty
none_in_hand = record { refs = refl; typed = refl; works = refl; locks = refl; ending = refl; claimed = refl; raised = refl; credits = refl; looking = refl }

-- hands that are all empty
hands_of_all : (k : ℕ) → length (replicate k empty) ≡ k
hands_of_all zero = refl
hands_of_all (suc k) = ap suc (hands_of_all k)

hands_empty : (k : ℕ) → hand_of (replicate k empty) ≡ (λ s. empty)
hands_empty k = λ i s. all_empty k s i

module _ (t : Trace) (words : List ℕ) (script : List Op) (formed : IsWellFormed t) (opens : IsOpening t words) (only : length t.layout.vcpu_domain ≡ 1) (sound : SoundWords t.layout words) where
  abbrev n : Machine
  n = t.layout

  real_refs : (g : ℕ) → g < n.frames → IsTrue (is_place (sizes_of n) (Refs g))
  unfolding is_place
  real_refs g inside = grind (arith, nat_tests)

  real_kind : (g : ℕ) → g < n.frames → IsTrue (is_place (sizes_of n) (Kind g))
  unfolding is_place
  real_kind g inside = grind (arith, nat_tests)

  real_map : (g : ℕ) → g < n.frames → IsTrue (is_place (sizes_of n) (M2p g))
  unfolding is_place
  real_map g inside = grind (arith, nat_tests)

  real_cell : (g i : ℕ) → g < n.frames → i < 512 → IsTrue (is_place (sizes_of n) (Cell g i))
  unfolding is_place
  real_cell g i inside low = grind (arith, nat_tests)

  real_word : (k : ℕ) → k < 38 → IsTrue (is_place (sizes_of n) (Vcpu 0 k))
  unfolding is_place
  real_word k low = grind (arith, nat_tests)

  real_priv : (d : ℕ) → d < length n.page_limit → IsTrue (is_place (sizes_of n) (Priv d))
  unfolding is_place
  real_priv d low = grind (arith, nat_tests)

  real_life : (d : ℕ) → d < length n.page_limit → IsTrue (is_place (sizes_of n) (Life d))
  unfolding is_place
  real_life d low = grind (arith, nat_tests)

  shown_low : (k : ℕ) → IsShownWord k → k < 38
  shown_low k (shown.base low) = omega arith
  shown_low k (shown.tables some most) = most

  opens_with : (p : Place) → IsTrue (is_place (sizes_of n) p) → opening_at t p ≡ memory (sizes_of n) words p
  opens_with p is = sym (opens.places p is)

  old_none : (k : ℕ) → k < 38 → opening_at t (Vcpu 0 k) ≡ 0 → memory (sizes_of n) words (Vcpu 0 k) ≡ 0
  old_none k low none = opens.places (Vcpu 0 k) (real_word k low) ∙ none

  no_old0 : opening_at t (Vcpu 0 2) ≡ 0
  unfolding opening_at
  no_old0 = refl

  no_old1 : opening_at t (Vcpu 0 3) ≡ 0
  unfolding opening_at
  no_old1 = refl

  kept_none : (g : ℕ) → (sober (kind_fields (opening_at t (Kind g)))).kept ≡ false
  unfolding opening_at
  kept_none g = zero_kept

  alive_all : (d : ℕ) → opening_at t (Life d) ≡ 0
  unfolding opening_at
  alive_all d = refl

  clean : Clean (first_port t words) (opening_solo t)
  clean =
      record {
        stands = record {
          machine = formed.machine;
          alone = record {
            story = opened_story n words;
            telling = refl;
            state = record { all_words = sound.all_words; all_hands = hands_of_all (sizes_of n).vcpus; sound = subst (Sound n (memory (sizes_of n) words)) (sym (hands_empty (sizes_of n).vcpus)) sound.sound };
            mine = refl;
            others = λ s real off. subst IsEmptyHand (sym (all_empty (sizes_of n).vcpus s)) none_in_hand;
          };
          only = only;
          real = omega arith;
          empty = subst IsEmptyHand (sym (all_empty (sizes_of n).vcpus 0)) none_in_hand;
          second = old_none 3 (omega arith) no_old1;
          others = record {
            maps = λ f inside. opens_with (M2p f) (real_map f inside);
            own = λ k is. opens_with (Vcpu 0 k) (real_word k (shown_low k is));
            privileges = λ d low. opens_with (Priv d) (real_priv d low);
            lives = λ d low. opens_with (Life d) (real_life d low);
          };
          unkept = λ g inside. kept_none g;
        };
        first = old_none 2 (omega arith) no_old0;
        frames = record {
          shares = λ g inside. ap share_of (opens_with (Refs g) (real_refs g inside));
          kinds = λ g inside. ap (λ y. sober (kind_fields y)) (opens_with (Kind g) (real_kind g inside));
          cells = λ g i inside low. opens_with (Cell g i) (real_cell g i inside low);
        };
      }

  pub opens_script : OpensScript (fresh n.frames 0 (domain_of n 0) script) (first_port t words) (opening_solo t)
  opens_script = record { clean = clean; alive = alive_all (domain_of n 0); domain = refl; no_line = refl; none = refl; at = refl; on = refl }
