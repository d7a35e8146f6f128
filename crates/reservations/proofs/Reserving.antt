-- An extent at each of its ways out.
use Rattle.std.proofs.Common.{◌≡◌, ◌≢◌, ℕ, ◌+◌, ◌-◌, ◌*◌, ◌/◌, ◌%◌, ◌^◌, ◌<◌, ◌≤◌, false, true, Option, Some, None, Ok, Err, refl, sym, ap, subst, arith, rules, inl}
use Rattle.std.proofs.lemmas.Nat.{div-add-mod', div-mul-add}
use Rattle.std.proofs.lemmas.Bool.Decides.{nat_tests}
use Rattle.xp_words.specs.declared.reply.Refusal.{Refusal}
use Rattle.xp_words.specs.declared.reply.Refusal.TheVariants.{BadRange}
use Rattle.xp_words.specs.declared.reply.Stop.{Stop}
use Rattle.xp_words.specs.declared.reply.Stop.TheVariants.{Refused, Paused}
use Rattle.xp_board.specs.Told.{PortValue, told_word}
use Rattle.xp_board.proofs.Sums.{when_eq}
use Rattle.step_maker.specs.Holds.{FlushedSame, Rests}
use Rattle.step_maker.specs.Answers.{Stops}
use Rattle.step_maker.specs.Asked.{Request, of_block}
use Rattle.step_maker.specs.Visits.{Does, Nothing}
use Rattle.step_maker.proofs.Piecing.{serves_nothing}
use Rattle.step_maker.proofs.Visiting.{does_as, does_nothing}
use Rattle.step_maker.proofs.Resting.{still_rests}
use Rattle.answer_laws.specs.Alone.{IsAlone}
use Rattle.frame_claims.specs.Blocks.{given_deeds}
use Rattle.frame_claims.specs.Claiming.{IsClaimStop, ServesClaim, ServesWhole, StopsClaim, TakesBlock}
use Rattle.frame_claims.specs.Found.{ClaimsBy}
use Rattle.frame_claims.specs.Plain.{ClaimsPlainly}
use Rattle.reservations.specs.declared.extents.Extent.TheVariants.{Increase, Populate}
use Rattle.reservations.specs.Extents.{GivesBlock, IsPopulateStop, PopulatesBy, PopulatesPlainly, Reserves, high_refusal, too_high}

-- ---- the block, by its number
first_of : (size first : ℕ) → first % size ≡ 0 → first ≡ first / size * size
first_of size first aligned = let all = div-add-mod' first size in omega (arith, all, aligned)

in_block : (size first f : ℕ) → first % size ≡ 0 → first ≤ f → f < first + size → f / size ≡ first / size
in_block size first f aligned from to =
    let start = first_of size first aligned in
    let is : first / size * size + (f - first) ≡ f = omega (arith, start, from) in
    subst (λ g. g / size ≡ first / size) is (div-mul-add (first / size) size (f - first) (omega (arith, from, to)))

abbrev takes : (owner size first : ℕ) (x : Option Refusal) → first % size ≡ 0 → TakesBlock (record (of_block owner size (first / size)) { by_numbers = x }) first size
takes owner size first x aligned =
    record {
      asks = record { number = size; pages = refl; names = λ f from to. when_eq (f / size) (first / size) (in_block size first f aligned from to) };
      block = refl;
    }

pub low_number : (g : ℕ) → g / 2 ^ 52 ≡ 0 → too_high g ≡ false
low_number g low = grind (arith, nat_tests)

pub high_number : (g : ℕ) → g / 2 ^ 52 ≢ 0 → too_high g ≡ true
high_number g high = grind (arith, nat_tests)

populate_stop : (e : Stop) → IsClaimStop e → IsPopulateStop e
populate_stop (Refused BadRange) is = absurd is
populate_stop (Refused _) is = is
populate_stop (Paused _) is = is

-- ---- a block is given
gives : (v : PortValue) (size f : ℕ) → f % size ≡ 0 → f + size ≤ v.post.machine.frames → GivesBlock v.post.machine size (f / size) f
gives v size f aligned inside = record { number = first_of size f aligned; inside = inside }

module _ {v w : PortValue} {owner size f : ℕ} (rests : Rests v) (inside : f + size ≤ v.post.machine.frames) (whole : ServesWhole v w f size (given_deeds f size)) (same : FlushedSame v w)
    (alone : IsAlone v → ClaimsPlainly v.post.machine (told_word v) owner size (Ok f)) (from : ℕ) where
  pub increased : Does v w (λ vs. ClaimsBy v.post owner size None (Ok f) vs) → Reserves owner size Increase from v from w (Ok (Some f))
  increased found =
      record {
        serves = record { block = f / size; is = gives v size f whole.aligned inside; serves = whole.serves _ (takes owner size f None whole.aligned) };
        stops = tt;
        kinds = tt;
        place = refl;
        hand = same;
        rests = still_rests v w rests same;
        found = found;
        plain = alone;
      }

  pub populated : (g : ℕ) → too_high g ≡ false → Does v w (λ vs. ClaimsBy v.post owner size (Some g) (Ok f) vs) → Reserves owner size (Populate g) from v from w (Ok (Some f))
  populated g low found =
      record {
        serves = record { block = f / size; is = gives v size f whole.aligned inside; serves = whole.serves _ (takes owner size f (high_refusal (too_high g)) whole.aligned) };
        stops = tt;
        kinds = tt;
        place = refl;
        hand = same;
        rests = still_rests v w rests same;
        found = subst (λ high. Does v w (λ vs. PopulatesBy high v.post owner size g (Ok (Some f)) vs)) (sym low) found;
        plain = subst (λ high. IsAlone v → PopulatesPlainly high v.post.machine (told_word v) owner size (Ok (Some f))) (sym low) alone;
      }

-- ---- it stops
module _ {v w : PortValue} {owner size : ℕ} {e : Stop} (rests : Rests v) (serves : ServesClaim v w size (Err e)) (stops : StopsClaim v w size e) (kind : IsClaimStop e) (same : FlushedSame v w)
    (alone : IsAlone v → ClaimsPlainly v.post.machine (told_word v) owner size (Err e)) (from : ℕ) where
  pub increase_stops : Does v w (λ vs. ClaimsBy v.post owner size None (Err e) vs) → Reserves owner size Increase from v from w (Err e)
  increase_stops found =
      record {
        serves = record { block = serves.0 / size; is = tt; serves = serves.1.serves _ (takes owner size serves.0 None serves.1.aligned) };
        stops = (stops.0 / size, stops.2 _ (takes owner size stops.0 None stops.1) (omega arith));
        kinds = kind;
        place = refl;
        hand = same;
        rests = still_rests v w rests same;
        found = found;
        plain = alone;
      }

  pub populate_stops : (g : ℕ) → too_high g ≡ false → Does v w (λ vs. ClaimsBy v.post owner size (Some g) (Err e) vs) → Reserves owner size (Populate g) from v from w (Err e)
  populate_stops g low found =
      let x = high_refusal (too_high g) in
      record {
        serves = record { block = serves.0 / size; is = tt; serves = serves.1.serves _ (takes owner size serves.0 x serves.1.aligned) };
        stops = (stops.0 / size, stops.2 _ (takes owner size stops.0 x stops.1) (omega arith));
        kinds = populate_stop e kind;
        place = refl;
        hand = same;
        rests = still_rests v w rests same;
        found = subst (λ high. Does v w (λ vs. PopulatesBy high v.post owner size g (Err e) vs)) (sym low) found;
        plain = subst (λ high. IsAlone v → PopulatesPlainly high v.post.machine (told_word v) owner size (Err e)) (sym low) alone;
      }

-- ---- its number is too high
refused : (v : PortValue) (r : Request) → r.by_numbers ≡ Some BadRange → Stops v v r (Refused BadRange)
unfolding Stops
refused v r is = inl is

pub too_high_stops : (v : PortValue) (owner size from g : ℕ) → Rests v → too_high g ≡ true → Reserves owner size (Populate g) from v from v (Err (Refused BadRange))
too_high_stops v owner size from g rests is =
    record {
      serves = record { block = 0; is = tt; serves = serves_nothing v _ };
      stops = (0, refused v _ (ap high_refusal is));
      kinds = tt;
      place = refl;
      hand = refl;
      rests = rests;
      found = subst (λ high. Does v v (λ vs. PopulatesBy high v.post owner size g (Err (Refused BadRange)) vs)) (sym is) (does_as v v Nothing _ (λ vs none. (refl, none)) (does_nothing v));
      plain = λ alone. subst (λ high. PopulatesPlainly high v.post.machine (told_word v) owner size (Err (Refused BadRange))) (sym is) refl;
    }
