use Rattle.std.proofs.Common.{◌≡◌, ℕ, suc, ◌<◌, ◌^◌, Bool, true, false, cond, List, [], ◌∷◌, All, find, Option, Some, arith, lit<, refl}
use Rattle.xp_words.specs.RefWords.{ref_read, IsRef}
use Rattle.xp_words.specs.declared.place.Place.TheVariants.{Refs, Kind}
use Rattle.xp_words.specs.KindWords.{kind_read, kind_fields, has_form}
use Rattle.xp_words.proofs.RefLaws.{ref_read-write}
use Rattle.trace_text.specs.declared.trace.Own.{Own}
use Rattle.trace_text.specs.declared.trace.Trace.{Trace}
use Rattle.trace_text.specs.WellFormed.{IsWellFormed}
use Rattle.trace_text.specs.Counted.{has_frame}
use Rattle.machine_build.specs.Opening.{reference_in, opening_at, untyped}

found_first : (b : Bool) (x : Own) (y : Option Own) → x.domain < 2 ^ 16 → IsRef (reference_in y) → IsRef (reference_in (cond b (Some x) y))
unfolding IsRef
found_first true x y h k = (h, lit< tt, lit< tt)
found_first false x y h k = k

found : (p : Own → Bool) (xs : List Own) → All (λ o. o.domain < 2 ^ 16) xs → IsRef (reference_in (find p xs))
unfolding IsRef
found p [] h = lit< tt
found p (x ∷ xs) h = found_first (p x) x (find p xs) (h 0 x (omega arith)) (found p xs (λ k d b. h (suc k) d (omega arith)))

pub reads_as : (t : Trace) (f : ℕ) → IsWellFormed t → ref_read (opening_at t (Refs f)) ≡ Some (reference_in (find (has_frame f) t.owned))
unfolding opening_at
reads_as t f w =
    let domains : All (λ o. o.domain < 2 ^ 16) t.owned = λ k d b. (let o = w.owned k d b in let m = o.domain in let few = w.machine.few_domains in omega arith) in
    ref_read-write (reference_in (find (has_frame f) t.owned)) (found (has_frame f) t.owned domains)

pub kind_reads_as : (t : Trace) (f : ℕ) → kind_read (opening_at t (Kind f)) ≡ Some untyped
unfolding opening_at kind_read kind_fields has_form
kind_reads_as t f = refl
