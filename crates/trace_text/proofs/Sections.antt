-- The sections of a trace's lines, each from the front before it.
use Rattle.std.proofs.Common.{◌≡◌, ℕ, ◌+◌, ◌<◌, ◌≤◌, List, [], ◌∷◌, ◌++◌, length, map, slice_index, true, refl, subst, arith, append_assoc, append-nil, get_or, IsTrue, replicate}
use Rattle.std.specs.List.{All, AllPairs, list_all}
use Rattle.std.proofs.Math.Seq.{get_or-append_seam}
use Rattle.std.proofs.lemmas.List.{get_or_append_left}
use Rattle.std.proofs.lemmas.List.Elements.{All-head, All-tail}
use Rattle.std.proofs.lemmas.List.Sums.{list_all-from_AllPass}
use Rattle.std.proofs.lemmas.Grind.{common_steps}
use Rattle.xp_words.specs.declared.ops.Op.{Op}
use Rattle.trace_lines.specs.declared.line.Line.TheVariants as lines
use Rattle.trace_text.specs.declared.trace.Own.{Own}
use Rattle.trace_text.specs.declared.trace.CellRun.{CellRun}
use Rattle.trace_text.specs.declared.trace.TurnRun.{TurnRun}
use Rattle.trace_text.specs.Counted.{turns_of, pages_of, is_apart}
use Rattle.trace_text.specs.Fronts.{Front, front_after, front_after_domain, front_after_vcpu, front_after_own, may_own, front_after_cell, front_after_turn}
use Rattle.trace_text.specs.Lines.{own_line, cell_line, turn_line}
use Rattle.trace_text.specs.Parts.{IsRun}
use Rattle.trace_text.specs.WellFormed.{IsCellRun}
use Rattle.trace_text.proofs.Leads.{Step, Leads, Reaches}

turn_step : (f : Front) (t : TurnRun) → 7 ≤ f.place → f.place ≤ 10 → length f.vcpus ≤ 16 → t.vcpu < length f.vcpus → turns_of f.turns + t.count ≤ 1000000 → Step f (turn_line t) (record f { place = 10; turns = f.turns ++ t ∷ [] })
unfolding front_after front_after_turn
turn_step f t low high few known within = record {
  spelled = (omega arith, omega arith);
  open_still = grind (arith, common_steps);
  taken = grind (arith, common_steps);
}

turns_before : (before : List TurnRun) (t : TurnRun) (ts : List TurnRun) → turns_of (before ++ t ∷ ts) ≤ 1000000 → turns_of before + t.count ≤ 1000000
turns_before before t ts few = grind (arith, common_steps, few)

pub turns_lead : (f : Front) (ts : List TurnRun) → 7 ≤ f.place → f.place ≤ 10 → length f.vcpus ≤ 16 → All (λ t. t.vcpu < length f.vcpus) ts → turns_of (f.turns ++ ts) ≤ 1000000 → Reaches 7 10 f (map turn_line ts) (record f { turns = f.turns ++ ts })
turns_lead f [] low high few known within = (f.place, low, high, rw append-nil refl)
turns_lead f (t ∷ ts) low high few known within =
    let h : Front = record f { place = 10; turns = f.turns ++ t ∷ [] } in
    let one = turn_step f t low high few (All-head (λ t. t.vcpu < length f.vcpus) t ts known) (turns_before f.turns t ts within) in
    let same : (f.turns ++ t ∷ []) ++ ts ≡ f.turns ++ t ∷ ts = append_assoc (f.turns) (t ∷ []) ts in
    let rest = turns_lead h ts (omega arith) (omega arith) few (All-tail (λ t. t.vcpu < length f.vcpus) t ts known) (rw same within) in
    (rest.0, rest.1, rest.2, (h, one, subst (λ us. Leads h (map turn_line ts) (record f { place = rest.0; turns = us })) same rest.3))

-- ---- cells

cell_step : (f : Front) (c : CellRun) → 7 ≤ f.place → f.place ≤ 9 → f.frames ≤ 65536 → IsCellRun f.frames c → Step f (cell_line c) (record f { place = 9; cells = f.cells ++ c ∷ [] })
unfolding front_after front_after_cell
cell_step f c low high few is = record {
  spelled = (omega arith, omega arith, omega arith, is.word);
  open_still = grind (arith, common_steps);
  taken = grind (arith, common_steps);
}

pub cells_lead : (f : Front) (cs : List CellRun) → 7 ≤ f.place → f.place ≤ 9 → f.frames ≤ 65536 → All (IsCellRun f.frames) cs → Reaches 7 9 f (map cell_line cs) (record f { cells = f.cells ++ cs })
cells_lead f [] low high few known = (f.place, low, high, rw append-nil refl)
cells_lead f (c ∷ cs) low high few known =
    let h : Front = record f { place = 9; cells = f.cells ++ c ∷ [] } in
    let one = cell_step f c low high few (All-head (IsCellRun f.frames) c cs known) in
    let same : (f.cells ++ c ∷ []) ++ cs ≡ f.cells ++ c ∷ cs = append_assoc (f.cells) (c ∷ []) cs in
    let rest = cells_lead h cs (omega arith) (omega arith) few (All-tail (IsCellRun f.frames) c cs known) in
    (rest.0, rest.1, rest.2, (h, one, subst (λ us. Leads h (map cell_line cs) (record f { place = rest.0; cells = us })) same rest.3))

-- ---- owned frames

-- runs of frames that domains of those limits may own together
pub record Ownable (domains : List ℕ) (frames : ℕ) (owned : List Own) : Type 0 where
  pub runs : All (IsRun (length domains) frames) owned
  pub apart : AllPairs (λ a b. IsTrue (is_apart a b)) owned
  pub pages : (d : ℕ) → d < length domains → pages_of d owned ≤ slice_index domains d

run_at : (domains : List ℕ) (frames : ℕ) (before os : List Own) (o : Own) → Ownable domains frames (before ++ o ∷ os) → IsRun (length domains) frames o
run_at domains frames before os o is =
    let there = is.runs (length before) o (grind (arith, common_steps)) in
    rw get_or-append_seam at there

apart_at : (domains : List ℕ) (frames : ℕ) (before os : List Own) (o : Own) → Ownable domains frames (before ++ o ∷ os) → list_all (is_apart o) before ≡ true
apart_at domains frames before os o is = list_all-from_AllPass (is_apart o) before (λ k d within.
    let there = is.apart k (length before) d within (grind (arith, common_steps)) in
    let pair : IsTrue (is_apart (get_or before k d) o) = rw (get_or_append_left before (o ∷ os) d k within, get_or-append_seam before o os d) at there in
    grind (arith, common_steps))

room_at : (domains : List ℕ) (frames : ℕ) (before os : List Own) (o : Own) → Ownable domains frames (before ++ o ∷ os) → o.domain < length domains → pages_of o.domain before + o.count ≤ slice_index domains o.domain
room_at domains frames before os o is known =
    let all = is.pages o.domain known in
    grind (arith, common_steps)

own_step : (f : Front) (o : Own) (os : List Own) → 7 ≤ f.place → f.place ≤ 8 → f.frames ≤ 65536 → length f.domains ≤ 16 → Ownable f.domains f.frames (f.owned ++ o ∷ os) → Step f (own_line o) (record f { place = 8; owned = f.owned ++ o ∷ [] })
unfolding front_after front_after_own may_own
own_step f o os low high few few_domains is =
    let run = run_at f.domains f.frames f.owned os o is in
    let apart = apart_at f.domains f.frames f.owned os o is in
    let room = room_at f.domains f.frames f.owned os o is run.domain in
    record {
      spelled = (omega arith, omega arith, omega arith);
      open_still = grind (arith, common_steps);
      taken = grind (arith, common_steps);
    }

pub own_lead : (f : Front) (os : List Own) → 7 ≤ f.place → f.place ≤ 8 → f.frames ≤ 65536 → length f.domains ≤ 16 → Ownable f.domains f.frames (f.owned ++ os) → Reaches 7 8 f (map own_line os) (record f { owned = f.owned ++ os })
own_lead f [] low high few few_domains is = (f.place, low, high, rw append-nil refl)
own_lead f (o ∷ os) low high few few_domains is =
    let h : Front = record f { place = 8; owned = f.owned ++ o ∷ [] } in
    let one = own_step f o os low high few few_domains is in
    let same : (f.owned ++ o ∷ []) ++ os ≡ f.owned ++ o ∷ os = append_assoc (f.owned) (o ∷ []) os in
    let rest = own_lead h os (omega arith) (omega arith) few few_domains (rw same is) in
    (rest.0, rest.1, rest.2, (h, one, subst (λ us. Leads h (map own_line os) (record f { place = rest.0; owned = us })) same rest.3))

-- ---- domains and vCPUs

domain_step : (f : Front) (limit : ℕ) → 2 ≤ f.place → f.place ≤ 5 → limit ≤ 65536 → length f.domains < 16 → Step f (lines.Domain limit) (record f { place = 5; domains = f.domains ++ limit ∷ []; masks = f.masks ++ 0 ∷ [] })
unfolding front_after front_after_domain
domain_step f limit low high within few = record {
  spelled = omega arith;
  open_still = grind (arith, common_steps);
  taken = grind (arith, common_steps);
}

abbrev with_domains : Front → ℕ → List ℕ → List ℕ → Front
with_domains f place domains masks = record f { place = place; domains = domains; masks = masks }

-- a list of that many, at the end of another
pushed : {X : Type 0} (xs : List X) (x : X) (n : ℕ) → (xs ++ x ∷ []) ++ replicate n x ≡ xs ++ x ∷ replicate n x
pushed xs x n = append_assoc xs (x ∷ []) (replicate n x)

-- The first domain makes the place, so there is no empty case.
pub domains_lead : (f : Front) (limit : ℕ) (limits : List ℕ) → 2 ≤ f.place → f.place ≤ 5 → All (λ n. n ≤ 65536) (limit ∷ limits) → length (f.domains ++ limit ∷ limits) ≤ 16 → Leads f (map (λ limit. lines.Domain limit) (limit ∷ limits)) (with_domains f 5 (f.domains ++ limit ∷ limits) (f.masks ++ replicate (length (limit ∷ limits)) 0))
domains_lead f limit [] low high within few =
    let room : length f.domains < 16 = grind (arith, common_steps) in
    (with_domains f 5 (f.domains ++ limit ∷ []) (f.masks ++ 0 ∷ []), domain_step f limit low high (All-head (λ n. n ≤ 65536) limit [] within) room, refl)
domains_lead f limit (next ∷ limits) low high within few =
    let room : length f.domains < 16 = grind (arith, common_steps) in
    let h : Front = with_domains f 5 (f.domains ++ limit ∷ []) (f.masks ++ 0 ∷ []) in
    let one = domain_step f limit low high (All-head (λ n. n ≤ 65536) limit (next ∷ limits) within) room in
    let same : (f.domains ++ limit ∷ []) ++ next ∷ limits ≡ f.domains ++ limit ∷ next ∷ limits = append_assoc (f.domains) (limit ∷ []) (next ∷ limits) in
    let also : (f.masks ++ 0 ∷ []) ++ replicate (length (next ∷ limits)) 0 ≡ f.masks ++ replicate (length (limit ∷ next ∷ limits)) 0 = pushed f.masks 0 (length (next ∷ limits)) in
    let rest = domains_lead h next limits (omega arith) (omega arith) (All-tail (λ n. n ≤ 65536) limit (next ∷ limits) within) (rw same few) in
    (h, one, subst (λ ds. Leads h (map (λ limit. lines.Domain limit) (next ∷ limits)) (with_domains f 5 ds (f.masks ++ replicate (length (limit ∷ next ∷ limits)) 0))) same (subst (λ ms. Leads h (map (λ limit. lines.Domain limit) (next ∷ limits)) (with_domains f 5 ((f.domains ++ limit ∷ []) ++ next ∷ limits) ms)) also rest))

vcpu_step : (f : Front) (domain : ℕ) → 5 ≤ f.place → f.place ≤ 7 → length f.domains ≤ 16 → domain < length f.domains → length f.vcpus < 16 → Step f (lines.Vcpu domain) (record f { place = 7; vcpus = f.vcpus ++ domain ∷ []; scripts = f.scripts ++ [] ∷ [] })
unfolding front_after front_after_vcpu
vcpu_step f domain low high small within few = record {
  spelled = omega arith;
  open_still = grind (arith, common_steps);
  taken = grind (arith, common_steps);
}

abbrev with_vcpus : Front → ℕ → List ℕ → List (List Op) → Front
with_vcpus f place vcpus scripts = record f { place = place; vcpus = vcpus; scripts = scripts }

pub vcpus_lead : (f : Front) (domain : ℕ) (domains : List ℕ) → 5 ≤ f.place → f.place ≤ 7 → length f.domains ≤ 16 → All (λ d. d < length f.domains) (domain ∷ domains) → length (f.vcpus ++ domain ∷ domains) ≤ 16 → Leads f (map (λ domain. lines.Vcpu domain) (domain ∷ domains)) (with_vcpus f 7 (f.vcpus ++ domain ∷ domains) (f.scripts ++ replicate (length (domain ∷ domains)) []))
vcpus_lead f domain [] low high small within few =
    let room : length f.vcpus < 16 = grind (arith, common_steps) in
    (with_vcpus f 7 (f.vcpus ++ domain ∷ []) (f.scripts ++ [] ∷ []), vcpu_step f domain low high small (All-head (λ d. d < length f.domains) domain [] within) room, refl)
vcpus_lead f domain (next ∷ domains) low high small within few =
    let room : length f.vcpus < 16 = grind (arith, common_steps) in
    let h : Front = with_vcpus f 7 (f.vcpus ++ domain ∷ []) (f.scripts ++ [] ∷ []) in
    let one = vcpu_step f domain low high small (All-head (λ d. d < length f.domains) domain (next ∷ domains) within) room in
    let same : (f.vcpus ++ domain ∷ []) ++ next ∷ domains ≡ f.vcpus ++ domain ∷ next ∷ domains = append_assoc (f.vcpus) (domain ∷ []) (next ∷ domains) in
    let also : (f.scripts ++ [] ∷ []) ++ replicate (length (next ∷ domains)) [] ≡ f.scripts ++ replicate (length (domain ∷ next ∷ domains)) [] = pushed f.scripts [] (length (next ∷ domains)) in
    let rest = vcpus_lead h next domains (omega arith) (omega arith) small (All-tail (λ d. d < length f.domains) domain (next ∷ domains) within) (rw same few) in
    (h, one, subst (λ ds. Leads h (map (λ domain. lines.Vcpu domain) (next ∷ domains)) (with_vcpus f 7 ds (f.scripts ++ replicate (length (domain ∷ next ∷ domains)) []))) same (subst (λ ss. Leads h (map (λ domain. lines.Vcpu domain) (next ∷ domains)) (with_vcpus f 7 ((f.vcpus ++ domain ∷ []) ++ next ∷ domains) ss)) also rest))
