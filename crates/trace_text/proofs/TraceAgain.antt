-- What is written of a well-formed trace is read as that trace.
use Rattle.std.proofs.Common.{◌≡◌, ℕ, ◌<◌, ◌≤◌, List, [], ◌∷◌, ◌++◌, length, map, Ok, false, ◌==◌, ◌||◌, nat_lt, IsTrue, ◌⊎◌, inl, inr, refl, sym, ap, ◌∙◌, arith, replicate}
use Rattle.std.specs.List.{All}
use Rattle.std.proofs.lemmas.Bool.Decides.{eqb_tells}
use Rattle.std.proofs.lemmas.Grind.{common_steps}
use Rattle.xp_words.specs.declared.ops.Op.{Op}
use Rattle.trace_lines.specs.declared.line.Line.TheVariants as lines
use Rattle.trace_text.specs.declared.trace.Own.{Own}
use Rattle.trace_text.specs.declared.trace.CellRun.{CellRun}
use Rattle.trace_text.specs.declared.trace.TurnRun.{TurnRun}
use Rattle.trace_text.specs.declared.trace.Trace.{Trace}
use Rattle.trace_text.specs.Fronts.{Front, empty_front, front_after, front_after_header, front_after_frames, front_after_limit, front_after_clock, front_after_end}
use Rattle.trace_text.specs.Lines.{own_line, cell_line, turn_line, priv_lines, op_lines, head_lines, machine_lines, opening_lines, run_lines, lines_for, spelling}
use Rattle.trace_text.specs.TraceOf.{trace_of, trace_from}
use Rattle.trace_text.specs.WellFormed.{IsWellFormed}
use Rattle.trace_text.proofs.Leads.{Step, Leads, Reaches, leads_both, leads_again, lines_again}
use Rattle.trace_text.proofs.PrivSection.{masks_lead}
use Rattle.trace_text.proofs.ScriptSection.{Few, scripts_lead}
use Rattle.trace_text.proofs.Sections.{Ownable, domains_lead, vcpus_lead, own_lead, cells_lead, turns_lead}

-- the lines of a trace so far, behind its first four lines
abbrev front : Trace → ℕ → List ℕ → List ℕ → List ℕ → List Own → List CellRun → List (List Op) → List TurnRun → Front
front t place domains masks vcpus owned cells scripts turns = record { place = place; version = t.version; frames = t.layout.frames; limit = t.layout.limit; clock = t.clock; domains = domains; masks = masks; vcpus = vcpus; owned = owned; cells = cells; scripts = scripts; turns = turns }

one_or_two : (v : ℕ) → IsTrue ((v == 1) || (v == 2)) → (v ≡ 1) ⊎ (v ≡ 2)
one_or_two v is = elim (eqb_tells v 1) as (λ t. (v ≡ 1) ⊎ (v ≡ 2)) [
  | inl one ↦ inl one.1
  | inr other ↦ inr (grind (arith, common_steps))
]

header_step : (t : Trace) → IsWellFormed t → Step empty_front (lines.Header t.version) (record empty_front { place = 1; version = t.version })
unfolding front_after front_after_header
header_step t is = record { spelled = one_or_two t.version is.version; open_still = refl; taken = refl }

frames_step : (t : Trace) → IsWellFormed t → Step (record empty_front { place = 1; version = t.version }) (lines.Frames t.layout.frames) (record empty_front { place = 2; version = t.version; frames = t.layout.frames })
unfolding front_after front_after_frames
frames_step t is =
    let machine = is.machine in
    record { spelled = omega (arith, is.machine.few_frames); open_still = refl; taken = grind (arith, common_steps, is.frames, is.machine.some_frames, is.machine.few_frames, is.version) }

limit_step : (t : Trace) → IsWellFormed t → Step (record empty_front { place = 2; version = t.version; frames = t.layout.frames }) (lines.Limit t.layout.limit) (record empty_front { place = 3; version = t.version; frames = t.layout.frames; limit = t.layout.limit })
unfolding front_after front_after_limit
limit_step t is = record { spelled = omega (arith, is.machine.few_counts); open_still = refl; taken = grind (arith, common_steps, is.machine.some_count, is.machine.few_counts) }

clock_step : (t : Trace) → IsWellFormed t → Step (record empty_front { place = 3; version = t.version; frames = t.layout.frames; limit = t.layout.limit }) (lines.Clock t.clock) (front t 4 [] [] [] [] [] [] [])
unfolding front_after front_after_clock
clock_step t is = record { spelled = omega (arith, is.clock); open_still = refl; taken = grind (arith, common_steps, is.some_clock, is.clock) }

end_step : (f : Front) → 7 ≤ f.place → f.place ≤ 10 → Step f lines.End (record f { place = 11 })
unfolding front_after front_after_end
end_step f low high = record { spelled = tt; open_still = grind (arith, common_steps); taken = grind (arith, common_steps) }

head_part : (t : Trace) → IsWellFormed t → Leads empty_front (head_lines t) (front t 4 [] [] [] [] [] [] [])
head_part t is = (
  record empty_front { place = 1; version = t.version },
  header_step t is,
  (
    record empty_front { place = 2; version = t.version; frames = t.layout.frames },
    frames_step t is,
    (
      record empty_front { place = 3; version = t.version; frames = t.layout.frames; limit = t.layout.limit },
      limit_step t is,
      (front t 4 [] [] [] [] [] [] [], clock_step t is, refl),
    ),
  ),
)

domains_part : (t : Trace) (ls : List ℕ) → 1 ≤ length ls → length ls ≤ 16 → All (λ n. n ≤ 65536) ls → Leads (front t 4 [] [] [] [] [] [] []) (map (λ limit. lines.Domain limit) ls) (front t 5 ls (replicate (length ls) 0) [] [] [] [] [])
domains_part t [] some few are = absurd (omega arith)
domains_part t (l ∷ ls) some few are = domains_lead (front t 4 [] [] [] [] [] [] []) l ls (omega arith) (omega arith) are few

vcpus_part : (t : Trace) (p : ℕ) (limits masks ds : List ℕ) → 5 ≤ p → p ≤ 6 → length limits ≤ 16 → 1 ≤ length ds → length ds ≤ 16 → All (λ d. d < length limits) ds → Leads (front t p limits masks [] [] [] [] []) (map (λ domain. lines.Vcpu domain) ds) (front t 7 limits masks ds [] [] (replicate (length ds) []) [])
vcpus_part t p limits masks [] low high few_limits some few are = absurd (omega arith)
vcpus_part t p limits masks (d ∷ ds) low high few_limits some few are = vcpus_lead (front t p limits masks [] [] [] [] []) d ds low (omega arith) few_limits are few

-- the front behind the machine's lines
abbrev built : Trace → ℕ → List Own → List CellRun → List (List Op) → List TurnRun → Front
built t place owned cells scripts turns = front t place t.layout.page_limit t.layout.privilege t.layout.vcpu_domain owned cells scripts turns

machine_part : (t : Trace) → IsWellFormed t → Leads (front t 4 [] [] [] [] [] [] []) (machine_lines t) (built t 7 [] [] (replicate (length t.layout.vcpu_domain) []) [])
machine_part t is =
    let m = is.machine in
    let limits = t.layout.page_limit in
    let opened : Front = front t 5 limits (replicate (length limits) 0) [] [] [] [] [] in
    let empty : opened.masks ≡ [] ++ replicate (length t.layout.privilege) 0 = ap (λ n. replicate n 0) (sym m.masks) in
    let privileged : Reaches 5 6 opened (priv_lines (length limits) t.layout.privilege) (front t 5 limits t.layout.privilege [] [] [] [] []) =
    masks_lead opened [] t.layout.privilege empty (omega arith) (omega arith) m.few_domains m.masks (λ d known. m.no_own d (omega (arith, m.masks))) in
    leads_both (front t 4 [] [] [] [] [] [] []) opened (built t 7 [] [] (replicate (length t.layout.vcpu_domain) []) []) (map (λ limit. lines.Domain limit) limits) (priv_lines (length limits) t.layout.privilege ++ map (λ domain. lines.Vcpu domain) t.layout.vcpu_domain)
    (domains_part t limits m.some_domains m.few_domains m.few_pages)
    (leads_both opened (front t privileged.0 limits t.layout.privilege [] [] [] [] []) (built t 7 [] [] (replicate (length t.layout.vcpu_domain) []) []) (priv_lines (length limits) t.layout.privilege) (map (λ domain. lines.Vcpu domain) t.layout.vcpu_domain)
    privileged.3
    (vcpus_part t privileged.0 limits t.layout.privilege t.layout.vcpu_domain privileged.1 privileged.2 m.few_domains m.some_vcpus m.few_vcpus m.of_domains))

opening_part : (t : Trace) (scripts : List (List Op)) → IsWellFormed t → Reaches 7 9 (built t 7 [] [] scripts []) (opening_lines t) (built t 7 t.owned t.cells scripts [])
opening_part t scripts is =
    let ownable : Ownable t.layout.page_limit t.layout.frames t.owned = record {
      runs = λ k d within. (let one = is.owned k d within in record { domain = one.domain; some = one.some; inside = one.inside });
      apart = is.apart;
      pages = is.pages;
    } in
    let owned = own_lead (built t 7 [] [] scripts []) t.owned (omega arith) (omega arith) is.machine.few_frames is.machine.few_domains ownable in
    let cells = cells_lead (built t owned.0 t.owned [] scripts []) t.cells owned.1 (omega (arith, owned.2)) is.machine.few_frames is.cells in
    (cells.0, cells.1, cells.2, leads_both (built t 7 [] [] scripts []) (built t owned.0 t.owned [] scripts []) (built t cells.0 t.owned t.cells scripts []) (map own_line t.owned) (map cell_line t.cells) owned.3 cells.3)

run_part : (t : Trace) (p : ℕ) → 7 ≤ p → p ≤ 9 → IsWellFormed t → Leads (built t p t.owned t.cells (replicate (length t.layout.vcpu_domain) []) []) (run_lines t) (built t 11 t.owned t.cells t.scripts t.turns)
run_part t p low high is =
    let start : Front = built t p t.owned t.cells (replicate (length t.layout.vcpu_domain) []) [] in
    let empty : start.scripts ≡ [] ++ replicate (length t.scripts) [] = ap (λ n. replicate n []) (sym is.scripts) in
    let few : Few t.scripts = record { ops = is.few_ops; destroys = is.few_destroys; extents = is.few_extents } in
    let ops = scripts_lead start [] t.scripts empty low (omega arith) is.machine.few_vcpus (omega (arith, is.scripts)) is.ops few in
    let turns = turns_lead (built t ops.0 t.owned t.cells t.scripts []) t.turns ops.1 ops.2 is.machine.few_vcpus is.turns is.few_turns in
    let behind : Front = built t turns.0 t.owned t.cells t.scripts t.turns in
    let last : Front = built t 11 t.owned t.cells t.scripts t.turns in
    leads_both start (built t ops.0 t.owned t.cells t.scripts []) last (op_lines t.scripts) (map turn_line t.turns ++ lines.End ∷ []) ops.3
    (leads_both (built t ops.0 t.owned t.cells t.scripts []) behind last (map turn_line t.turns) (lines.End ∷ []) turns.3 (last, end_step behind turns.1 turns.2, refl))

whole : (t : Trace) → IsWellFormed t → Leads empty_front (lines_for t) (built t 11 t.owned t.cells t.scripts t.turns)
whole t is =
    let opening = opening_part t (replicate (length t.layout.vcpu_domain) []) is in
    let last : Front = built t 11 t.owned t.cells t.scripts t.turns in
    leads_both empty_front (front t 4 [] [] [] [] [] [] []) last (head_lines t) (machine_lines t ++ (opening_lines t ++ run_lines t)) (head_part t is)
    (leads_both (front t 4 [] [] [] [] [] [] []) (built t 7 [] [] (replicate (length t.layout.vcpu_domain) []) []) last (machine_lines t) (opening_lines t ++ run_lines t) (machine_part t is)
    (leads_both (built t 7 [] [] (replicate (length t.layout.vcpu_domain) []) []) (built t opening.0 t.owned t.cells (replicate (length t.layout.vcpu_domain) []) []) last (opening_lines t) (run_lines t) opening.3
    (run_part t opening.0 opening.1 opening.2 is)))

not_over : (n : ℕ) → n ≤ 67108864 → nat_lt 67108864 n ≡ false
not_over n within = grind (arith, common_steps)

-- what is written of a trace is read as that trace
pub trace_again : (t : Trace) → IsWellFormed t → length (spelling (lines_for t)) ≤ 67108864 → trace_of (spelling (lines_for t)) ≡ Ok t
unfolding trace_of
trace_again t is within =
    let last : Front = built t 11 t.owned t.cells t.scripts t.turns in
    rw (not_over (length (spelling (lines_for t))) within) (ap (trace_from empty_front 1) (lines_again empty_front last (lines_for t) (whole t is)) ∙ leads_again empty_front last 1 (lines_for t) (whole t is) refl)
