-- The lines of a trace, in the order of their forms, and their text.
use Rattle.std.specs.Prelude.{ℕ, zero, suc, if◌then◌else◌, List, [], ◌∷◌, ◌++◌, length, map}
use Rattle.std.specs.List.{flat_map, enumerate_from}
use Rattle.xp_words.specs.Entries.{is_bit}
use Rattle.xp_words.specs.declared.ops.Op.{Op}
use Rattle.trace_lines.specs.declared.line.Line.{Line}
use Rattle.trace_lines.specs.declared.line.Line.TheVariants as lines
use Rattle.trace_lines.specs.Spelling.{line_text}
use Rattle.trace_text.specs.declared.trace.Own.{Own}
use Rattle.trace_text.specs.declared.trace.CellRun.{CellRun}
use Rattle.trace_text.specs.declared.trace.TurnRun.{TurnRun}
use Rattle.trace_text.specs.declared.trace.Trace.{Trace}

-- what a domain has privilege over, among the domains below the n-th, in ascending order
unfoldable pub mask_lines : ℕ → ℕ → ℕ → List Line
mask_lines zero domain mask = []
mask_lines (suc n) domain mask = mask_lines n domain mask ++ (if is_bit n mask then lines.Priv domain n ∷ [] else [])

abbrev pub priv_lines : ℕ → List ℕ → List Line
priv_lines domains masks = flat_map (λ p. mask_lines domains p.0 p.1) (enumerate_from 0 masks)

abbrev pub own_line : Own → Line
own_line o = lines.Own o.domain o.first o.count

abbrev pub cell_line : CellRun → Line
cell_line c = lines.Cell c.frame c.first c.count c.value

abbrev pub turn_line : TurnRun → Line
turn_line t = lines.Turn t.vcpu t.count

abbrev pub script_lines : ℕ → List Op → List Line
script_lines vcpu script = map (λ op. lines.Op vcpu op) script

abbrev pub op_lines : List (List Op) → List Line
op_lines scripts = flat_map (λ p. script_lines p.0 p.1) (enumerate_from 0 scripts)

-- The lines before the domains. The limit and the clock are always there.
abbrev pub head_lines : Trace → List Line
head_lines t = lines.Header t.version ∷ lines.Frames t.layout.frames ∷ lines.Limit t.layout.limit ∷ lines.Clock t.clock ∷ []

abbrev pub machine_lines : Trace → List Line
machine_lines t = map (λ limit. lines.Domain limit) t.layout.page_limit ++ (priv_lines (length t.layout.page_limit) t.layout.privilege ++ map (λ domain. lines.Vcpu domain) t.layout.vcpu_domain)

abbrev pub opening_lines : Trace → List Line
opening_lines t = map own_line t.owned ++ map cell_line t.cells

abbrev pub run_lines : Trace → List Line
run_lines t = op_lines t.scripts ++ (map turn_line t.turns ++ lines.End ∷ [])

abbrev pub lines_for : Trace → List Line
lines_for t = head_lines t ++ (machine_lines t ++ (opening_lines t ++ run_lines t))

-- lines, with a line feed behind each
abbrev pub spelling : List Line → List ℕ
spelling ls = flat_map (λ l. line_text l ++ 10 ∷ []) ls
