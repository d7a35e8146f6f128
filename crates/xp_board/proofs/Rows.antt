-- Steps that are legal as they should be.
use Rattle.std.proofs.Common.{◌≡◌, ◌<◌, ◌≤◌, ◌+◌, ◌^◌, ℕ, Bool, refl, None, Some, length, arith, inl}
use Rattle.std.proofs.lemmas.Bool.Decides.{nat_tests}
use Rattle.xp_words.specs.declared.refs.RefWord.TheVariants.{Owned}
use Rattle.xp_words.specs.Machine.{Machine}
use Rattle.xp_words.specs.declared.place.Place.TheVariants.{Refs, M2p}
use Rattle.xp_words.specs.Places.{is_place}
use Rattle.xp_words.specs.RefWords.{ref_write, ref_read, IsRef}
use Rattle.xp_words.proofs.RefLaws.{ref_read-write}
use Rattle.xp_board.specs.declared.step.Act.TheVariants.{Cas, Store}
use Rattle.xp_board.specs.declared.step.StepKind.TheVariants as steps
use Rattle.xp_board.specs.declared.holdings.Holdings.{Holdings}
use Rattle.xp_board.specs.Hands.{hand}
use Rattle.xp_board.specs.Spelling.{IsSpelling}
use Rattle.xp_board.specs.Legal.{LegalMove}
use Rattle.xp_board.proofs.RefWords.{fits_owned}

pub raise_legal : (n : Machine) (s f owner count : ℕ) (allocated : Bool) (h : Holdings) → n.limit < 2 ^ 26 → length n.page_limit ≤ 16 → f < n.frames → h.run ≡ Some 0 →
    owner < length n.page_limit → 0 < count → count < n.limit →
    LegalMove n s h (Refs f) (Cas (ref_write (Owned owner allocated count)) (ref_write (Owned owner allocated (count + 1)))) steps.Ref None
unfolding is_place IsSpelling IsRef
raise_legal n s f owner count allocated h limit few frame run domain some below =
    let before : ref_read (ref_write (Owned owner allocated count)) ≡ Some (Owned owner allocated count) = ref_read-write _ (omega arith, some, omega arith) in
    let next : ref_read (ref_write (Owned owner allocated (count + 1))) ≡ Some (Owned owner allocated (count + 1)) = ref_read-write _ (omega arith, omega arith, omega arith) in
    record {
      place = grind (arith, nat_tests);
      marked = tt;
      running = λ needs. run;
      spelling = rw next (fits_owned n owner (count + 1) allocated domain (omega arith));
      act = rw (before, next) (inl (record { below = below; left = refl }));
    }

pub map_legal : (n : Machine) (s f new : ℕ) (h : Holdings) → f < n.frames → h.run ≡ Some 0 → new < 2 ^ 64 → 0 < hand f h → LegalMove n s h (M2p f) (Store new) steps.M2p None
unfolding is_place IsSpelling
map_legal n s f new h frame run small held =
    record {
      place = grind (arith, nat_tests);
      marked = tt;
      running = λ needs. run;
      spelling = small;
      act = record { in_hand = inl held };
    }
