-- The fixed numbers of a machine, as they stand in bytes.
use Rattle.std.proofs.Common.{◌≡◌, ℕ, ◌+◌, ◌-◌, ◌*◌, ◌^◌, ◌≤◌, ◌<◌, Bool, true, ◌&&◌, not, ltb, leb, List, [], ◌∷◌, ◌++◌, length, get_or, Result, Ok, refl, sym, ap, subst, ◌∙◌, append_assoc, arith}
use Rattle.std.proofs.lemmas.Bool.{ltb-true, leb-true, le-leb, and_parts, and_from}
use Rattle.std.proofs.lemmas.List.{get_or_default}
use Rattle.xp_words.specs.Entries.{is_bit}
use Rattle.xp_words.specs.Machine.{Machine, IsMachine, IsMask}
use Rattle.machine_image.specs.Image.{fixed_numbers}
use Rattle.machine_image.specs.Reading.{letters, ranged_at, mask_at, each_at, machine_at, count_place}
use Rattle.machine_image.proofs.Bytes.{AreBytes, Front, front_none, front_more}
use Rattle.machine_image.proofs.Fields.{bind_ok, Holds, tested_holds, holds_tested, HoldsEach, each_holds, holds_each, front_each}

-- the tests of numbers
abbrev pub in_range : ℕ → ℕ → ℕ → Bool
in_range least most n = leb least n && leb n most

abbrev pub is_mask : ℕ → ℕ → ℕ → Bool
is_mask domains d n = ltb n (2 ^ domains) && not (is_bit d n)

-- each number of the machine stands at its place
pub record MachineHolds (bytes : List ℕ) (m : Machine) : Type 0 where
  pub mark : Holds (in_range letters letters) bytes 0 letters
  pub frames : Holds (in_range 1 65536) bytes 1 m.frames
  pub limit : Holds (in_range 2 67108863) bytes 2 m.limit
  pub domains : Holds (in_range 1 16) bytes 3 (length m.page_limit)
  pub vcpus : Holds (in_range 1 16) bytes 4 (length m.vcpu_domain)
  pub page_limit : HoldsEach (λ _. in_range 0 65536) bytes 0 5 m.page_limit
  pub masks : length m.privilege ≡ length m.page_limit
  pub privilege : HoldsEach (is_mask (length m.page_limit)) bytes 0 (5 + length m.page_limit) m.privilege
  pub vcpu_domain : HoldsEach (λ _. in_range 0 (length m.page_limit - 1)) bytes 0 (5 + 2 * length m.page_limit) m.vcpu_domain

in_range_parts : (least most n : ℕ) → in_range least most n ≡ true → (least ≤ n) × (n ≤ most)
in_range_parts least most n e =
    let p = and_parts (leb least n) (leb n most) e in
    (leb-true least n p.0, leb-true n most p.1)

pub in_range_from : (least most n : ℕ) → least ≤ n → n ≤ most → in_range least most n ≡ true
in_range_from least most n low high = and_from (leb least n) (leb n most) (le-leb least n low) (le-leb n most high)

pub only_one : (k n : ℕ) → in_range k k n ≡ true → n ≡ k
only_one k n e = let p = in_range_parts k k n e in omega arith

mark_is : (bytes : List ℕ) (x : ℕ) → Holds (in_range letters letters) bytes 0 x → Holds (in_range letters letters) bytes 0 letters
mark_is bytes x h = subst (λ (y : ℕ). Holds (in_range letters letters) bytes 0 y) (only_one letters x h.right) h

machine_ok : (x y : Machine) → (let a : Result Machine ℕ = Ok x in a) ≡ Ok y → x ≡ y
machine_ok x y e = cc

pub machine_holds : (bytes : List ℕ) (m : Machine) → machine_at bytes ≡ Ok m → MachineHolds bytes m
unfolding machine_at
machine_holds bytes m e =
    let a = bind_ok (ranged_at letters letters bytes 0) _ m e in
    let b = bind_ok (ranged_at 1 65536 bytes 1) _ m a.2 in
    let l = bind_ok (ranged_at 2 67108863 bytes 2) _ m b.2 in
    let d = bind_ok (ranged_at 1 16 bytes 3) _ m l.2 in
    let v = bind_ok (ranged_at 1 16 bytes 4) _ m d.2 in
    let p = bind_ok (each_at (λ _. ranged_at 0 65536 bytes) 0 5 d.0) _ m v.2 in
    let q = bind_ok (each_at (λ i. mask_at d.0 i bytes) 0 (5 + d.0) d.0) _ m p.2 in
    let r = bind_ok (each_at (λ _. ranged_at 0 (d.0 - 1) bytes) 0 (5 + 2 * d.0) v.0) _ m q.2 in
    let made : Machine = record { frames = b.0; limit = l.0; page_limit = p.0; privilege = q.0; vcpu_domain = r.0 } in
    let ps = each_holds (λ _. in_range 0 65536) bytes 0 5 d.0 p.0 p.1 in
    let qs = each_holds (is_mask d.0) bytes 0 (5 + d.0) d.0 q.0 q.1 in
    let rs = each_holds (λ _. in_range 0 (d.0 - 1)) bytes 0 (5 + 2 * d.0) v.0 r.0 r.1 in
    subst (λ (x : Machine). MachineHolds bytes x) (machine_ok made m r.2) (record {
      mark = mark_is bytes a.0 (tested_holds (in_range letters letters) bytes 0 a.0 a.1);
      frames = tested_holds (in_range 1 65536) bytes 1 b.0 b.1;
      limit = tested_holds (in_range 2 67108863) bytes 2 l.0 l.1;
      domains = rw ps.0 (tested_holds (in_range 1 16) bytes 3 d.0 d.1);
      vcpus = rw rs.0 (tested_holds (in_range 1 16) bytes 4 v.0 v.1);
      page_limit = ps.1;
      masks = qs.0 ∙ sym ps.0;
      privilege = rw ps.0 qs.1;
      vcpu_domain = rw ps.0 rs.1;
    })

-- ---- what is read is a machine
range_of : {least most k x : ℕ} {bytes : List ℕ} → Holds (in_range least most) bytes k x → (least ≤ x) × (x ≤ most)
range_of {least} {most} {x = x} h = in_range_parts least most x h.right

each_range : (least most : ℕ) (bytes : List ℕ) (k : ℕ) (xs : List ℕ) → HoldsEach (λ _. in_range least most) bytes 0 k xs → (j d : ℕ) → j < length xs → (least ≤ get_or xs j d) × (get_or xs j d ≤ most)
each_range least most bytes k xs h j d inside =
    let here = range_of (h.each j inside) in
    rw (get_or_default xs j d 0 inside) here

mask_of : (domains : ℕ) (bytes : List ℕ) (k : ℕ) (xs : List ℕ) → HoldsEach (is_mask domains) bytes 0 k xs → (d : ℕ) → d < length xs → IsMask domains d (get_or xs d 0)
mask_of domains bytes k xs h d inside =
    let zero_first : 0 + d ≡ d = omega arith in
    let right : is_mask domains d (get_or xs d 0) ≡ true = ap (λ (i : ℕ). is_mask domains i (get_or xs d 0)) (sym zero_first) ∙ (h.each d inside).right in
    let p = and_parts (ltb (get_or xs d 0) (2 ^ domains)) (not (is_bit d (get_or xs d 0))) right in
    record { within = ltb-true _ _ p.0; no_own = p.1 }

pub is_machine : (bytes : List ℕ) (m : Machine) → MachineHolds bytes m → IsMachine m
is_machine bytes m h =
    let frames = range_of h.frames in
    let limit = range_of h.limit in
    let domains = range_of h.domains in
    let vcpus = range_of h.vcpus in
    record {
      some_frames = frames.0;
      few_frames = frames.1;
      some_count = limit.0;
      few_counts = omega arith;
      some_domains = domains.0;
      few_domains = domains.1;
      few_pages = λ j d inside. (each_range 0 65536 bytes 5 m.page_limit h.page_limit j d inside).1;
      masks = h.masks;
      no_own = λ d inside. mask_of (length m.page_limit) bytes (5 + length m.page_limit) m.privilege h.privilege d inside;
      some_vcpus = vcpus.0;
      few_vcpus = vcpus.1;
      of_domains = λ j d inside. (let r = each_range 0 (length m.page_limit - 1) bytes (5 + 2 * length m.page_limit) m.vcpu_domain h.vcpu_domain j d inside in omega arith);
    }

-- ---- a machine whose numbers stand there is read
pub machine_read : (bytes : List ℕ) (m : Machine) → MachineHolds bytes m → machine_at bytes ≡ Ok m
unfolding machine_at
machine_read bytes m h =
    let mark = holds_tested (in_range letters letters) bytes 0 letters h.mark in
    let frames = holds_tested (in_range 1 65536) bytes 1 m.frames h.frames in
    let limit = holds_tested (in_range 2 67108863) bytes 2 m.limit h.limit in
    let domains = holds_tested (in_range 1 16) bytes 3 (length m.page_limit) h.domains in
    let vcpus = holds_tested (in_range 1 16) bytes 4 (length m.vcpu_domain) h.vcpus in
    let pages = holds_each (λ _. in_range 0 65536) bytes 0 5 m.page_limit h.page_limit in
    let masks : each_at (λ d. mask_at (length m.page_limit) d bytes) 0 (5 + length m.page_limit) (length m.page_limit) ≡ Ok m.privilege = ap (each_at (λ d. mask_at (length m.page_limit) d bytes) 0 (5 + length m.page_limit)) (sym h.masks) ∙ holds_each (is_mask (length m.page_limit)) bytes 0 (5 + length m.page_limit) m.privilege h.privilege in
    let owners = holds_each (λ _. in_range 0 (length m.page_limit - 1)) bytes 0 (5 + 2 * length m.page_limit) m.vcpu_domain h.vcpu_domain in
    rw (mark, frames, limit, domains, vcpus, pages, masks, owners) refl

-- ---- with which numbers bytes begin
pub machine_front : (bytes : List ℕ) (m : Machine) → AreBytes bytes → MachineHolds bytes m → Front bytes (count_place m) (letters ∷ fixed_numbers m)
machine_front bytes m are h =
    let f1 = front_more bytes 0 [] letters are (front_none bytes) h.mark.whole h.mark.is in
    let f2 = front_more bytes 1 (letters ∷ []) m.frames are f1 h.frames.whole h.frames.is in
    let f3 = front_more bytes 2 (letters ∷ m.frames ∷ []) m.limit are f2 h.limit.whole h.limit.is in
    let f4 = front_more bytes 3 (letters ∷ m.frames ∷ m.limit ∷ []) (length m.page_limit) are f3 h.domains.whole h.domains.is in
    let f5 = front_more bytes 4 (letters ∷ m.frames ∷ m.limit ∷ length m.page_limit ∷ []) (length m.vcpu_domain) are f4 h.vcpus.whole h.vcpus.is in
    let sizes : List ℕ = letters ∷ m.frames ∷ m.limit ∷ length m.page_limit ∷ length m.vcpu_domain ∷ [] in
    let n = length m.page_limit in
    let f6 = front_each (λ _. in_range 0 65536) bytes 0 5 sizes m.page_limit are f5 h.page_limit in
    let f7 = front_each (is_mask n) bytes 0 (5 + n) (sizes ++ m.page_limit) m.privilege are f6 h.privilege in
    let a : 5 + n + length m.privilege ≡ 5 + 2 * n = omega (arith, h.masks) in
    let f8 = front_each (λ _. in_range 0 (n - 1)) bytes 0 (5 + 2 * n) ((sizes ++ m.page_limit) ++ m.privilege) m.vcpu_domain are (rw a at f7) h.vcpu_domain in
    let joined : ((sizes ++ m.page_limit) ++ m.privilege) ++ m.vcpu_domain ≡ sizes ++ (m.page_limit ++ (m.privilege ++ m.vcpu_domain)) = simp append_assoc in
    rw joined at f8
