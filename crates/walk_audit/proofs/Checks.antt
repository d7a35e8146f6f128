-- The checks one after the other.
use Rattle.std.proofs.Common.{◌≡◌, ℕ, ◌+◌, ◌*◌, ◌<◌, ◌≢◌, ◌==◌, if◌then◌else◌, length, false, IsTrue, Option, Some, None, inl, inr, ◌⊎◌, refl, subst, arith}
use Rattle.std.proofs.lemmas.Bool.Decides.{nat_tests}
use Rattle.std.proofs.lemmas.Bool.{cases_lt}
use Rattle.xp_words.specs.Machine.{Machine}
use Rattle.xp_words.specs.declared.place.Place.{Place}
use Rattle.xp_words.specs.declared.place.Place.TheVariants.{Refs, Kind, Vcpu}
use Rattle.xp_words.specs.Places.{sizes_of, is_place, number, size, map_words}
use Rattle.xp_words.proofs.PlaceLaws.{number-lt}
use Rattle.xp_board.specs.Spelling.{IsSpelling}
use Rattle.reference_recount.specs.Recounted.{IsReadable}
use Rattle.walk_audit.specs.Breaks.{Breaks, is_map}
use Rattle.walk_audit.specs.Order.{NoneBreaks, IsFirst, FirstVerdict, FirstFrom, PassedUpTo, ComesFirst, check_of, position}
use Rattle.walk_audit.specs.declared.verdict.Verdict.{Verdict}
use Rattle.walk_audit.specs.declared.verdict.Verdict.TheVariants as verdicts
use Rattle.walk_audit.proofs.Stable.{spelling_stable}
use Rattle.walk_audit.proofs.Leading.{looked_few, bad_looked}

module _ (n : Machine) (m : Place → ℕ) where
  -- ---- words that may stand there
  pub spelled_by : NoneBreaks n m 0 0 (size (sizes_of n)) → (p : Place) → IsTrue (is_place (sizes_of n) p) → is_map p ≡ false → IsSpelling n p (m p)
  spelled_by h p r o =
      spelling_stable n p (m p) o (λ odd.
      (let few = number-lt (sizes_of n) p r in
      h.none (verdicts.Word (number (sizes_of n) p) (m p)) (record { check = refl; from = omega arith; below = few })
      (record { place = p; real = r; other = o; stands = refl; found = refl; odd = odd })))

  pub readable : NoneBreaks n m 0 0 (size (sizes_of n)) → IsReadable n m
  unfolding is_place
  readable h =
      record {
        refs = λ f l. spelled_by h (Refs f) (grind (arith, nat_tests)) refl;
        kinds = λ f l. spelled_by h (Kind f) (grind (arith, nat_tests)) refl;
        contexts = λ v k a b. spelled_by h (Vcpu v k) (grind (arith, nat_tests)) refl;
      }

  -- ---- where the verdicts of a check stand
  -- every verdict of check c that breaks the words stands below `top`
  pub record IsTop (c top : ℕ) : Type 0 where
    pub below : (u : Verdict) → check_of u ≡ c → Breaks n m u → position u < top

  module _ (c top : ℕ) (t : IsTop c top) where
    pub passed_next : PassedUpTo n m c → NoneBreaks n m c 0 top → PassedUpTo n m (c + 1)
    passed_next p h =
        record {
          none = λ u l x. elim (cases_lt (check_of u) c) [
            | inl k ↦ p.none u k x
            | inr k ↦ (let at : check_of u ≡ c = omega arith in h.none u (record { check = at; from = omega arith; below = t.below u at x }) x)
          ];
        }

    -- the first of its check is the first of all, where the checks before it found nothing
    pub comes_first : (v : Verdict) → PassedUpTo n m c → IsFirst n m c 0 top v → ComesFirst n m v
    comes_first v p f =
        record {
          breaks = f.breaks;
          first = λ u x. elim (cases_lt (check_of u) c) [
            | inl k ↦ absurd (p.none u k x)
            | inr k ↦ elim (cases_lt c (check_of u)) [
              | inl l ↦ inl (let at = f.within.check in omega arith)
              | inr l ↦ (let at : check_of u ≡ c = omega arith in inr (
                let own = f.within.check in omega arith,
                elim (cases_lt (position u) (position v)) [
                  | inl b ↦ absurd (f.before.none u (record { check = at; from = omega arith; below = b }) x)
                  | inr b ↦ b
                ],
              ))
            ]
          ];
        }

  pub passed_none : PassedUpTo n m 0
  passed_none = record { none = λ u l x. absurd (omega arith) }

  -- ---- check by check
  -- how many places check c has
  abbrev pub top_of : ℕ → ℕ
  top_of c =
      if c == 0 then size (sizes_of n) else if c == 1 then n.frames else if c == 2 then 3 * n.frames else if c == 3 then length n.page_limit
      else if c == 4 then 512 * n.frames else if c == 5 then 38 * length n.vcpu_domain else if c == 6 then size (sizes_of n) else if c == 7 then length n.page_limit else map_words (sizes_of n)

  below_top : (u : Verdict) → IsReadable n m ⊎ (check_of u ≢ 4) → Breaks n m u → position u < top_of (check_of u)
  below_top verdicts.Sound r x = absurd x
  below_top (verdicts.Word k w) r x = (let at = x.stands in let few = number-lt (sizes_of n) x.place x.real in omega arith)
  below_top (verdicts.Held f) r x = x.real
  below_top (verdicts.Refs f a b) r x = (let l = x.0 in omega arith)
  below_top (verdicts.Count f a b) r x = (let l = x.0 in omega arith)
  below_top (verdicts.OtherKind f) r x = (let l = x.0 in omega arith)
  below_top (verdicts.Pages d a b) r x = x.0
  below_top (verdicts.BadEntry f i) (inl r) x = (let l = x.0 in let few = looked_few n m f r l in let in_row = bad_looked n m f i x in omega arith)
  below_top (verdicts.BadEntry f i) (inr r) x = absurd (r refl)
  below_top (verdicts.Context v k) r x = (let l = x.real in let few = x.few in omega arith)
  below_top (verdicts.Stamp k) r x = (let at = x.stands in let few = number-lt (sizes_of n) x.place x.real in omega arith)
  below_top (verdicts.Dead d) r x = x.real
  below_top (verdicts.Map k) r x = x.real

  pub words_top : IsTop 0 (size (sizes_of n))
  words_top = record { below = λ u a x. (let b = below_top u (inr (λ e. omega arith)) x in subst (λ c. position u < top_of c) a b) }

  pub each_top : IsReadable n m → (c : ℕ) → IsTop c (top_of c)
  each_top r c = record { below = λ u a x. (let b = below_top u (inl r) x in subst (λ c. position u < top_of c) a b) }

  -- the last check
  pub ends : (x : Option Verdict) → IsTop 8 (map_words (sizes_of n)) → PassedUpTo n m 8 → FirstVerdict n m 8 0 (map_words (sizes_of n)) x → FirstFrom n m x
  ends None t p h = passed_next 8 _ t p h
  ends (Some v) t p h = comes_first 8 _ t v p h
