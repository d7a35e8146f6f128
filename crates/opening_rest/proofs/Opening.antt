-- Nothing is left unfinished in opening words.
use Rattle.std.proofs.Common.{◌≡◌, ◌<◌, ℕ, false, List, IsTrue, refl, ap, ◌∙◌, arith}
use Rattle.std.proofs.lemmas.Bool.Decides.{nat_tests}
use Rattle.xp_words.specs.KindWords.{kind_fields}
use Rattle.xp_words.specs.Places.{is_place, memory, old0_of, old1_of, sizes_of}
use Rattle.xp_words.specs.declared.place.Place.TheVariants.{Kind}
use Rattle.xp_words.specs.Machine.{Machine}
use Rattle.xp_board.specs.Hands.{empty}
use Rattle.trace_text.specs.declared.trace.Trace.{Trace}
use Rattle.machine_build.specs.Opening.{IsOpening, opening_at}
use Rattle.rest_laws.specs.Resting.{IsNothingLeft}
use Rattle.rest_laws.proofs.Partials.{real_kind}

real_old0 : (n : Machine) (v : ℕ) → v < (sizes_of n).vcpus → IsTrue (is_place (sizes_of n) (old0_of v))
unfolding is_place
real_old0 n v real = grind (arith, nat_tests)

real_old1 : (n : Machine) (v : ℕ) → v < (sizes_of n).vcpus → IsTrue (is_place (sizes_of n) (old1_of v))
unfolding is_place
real_old1 n v real = grind (arith, nat_tests)

zero_unkept : (kind_fields 0).kept ≡ false
unfolding kind_fields
zero_unkept = refl

pub nothing_left : (t : Trace) (words : List ℕ) → IsOpening t words → IsNothingLeft t.layout (memory (sizes_of t.layout) words) (λ s. empty)
unfolding opening_at
nothing_left t words opens =
    record {
      hands = λ s real. record { refs = refl; typed = refl; works = refl; locks = refl; ending = refl; claimed = refl; raised = refl; credits = refl; looking = refl };
      first = λ v real. opens.places (old0_of v) (real_old0 t.layout v real);
      second = λ v real. opens.places (old1_of v) (real_old1 t.layout v real);
      unkept = λ g inside. ap (λ w. (kind_fields w).kept) (opens.places (Kind g) (real_kind t.layout g inside)) ∙ zero_unkept;
    }
