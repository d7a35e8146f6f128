-- The calls of a multi, read one after another.
use Rattle.std.proofs.Common.{◌≡◌, ℕ, List, [], ◌∷◌, ◌++◌, Result, Ok, refl, sym, ap, ◌∙◌}
use Rattle.std.specs.List.{slice_split}
use Rattle.xp_words.specs.declared.ops.Call.{Call}
use Rattle.trace_lines.specs.declared.fault.LineFault.{LineFault}
use Rattle.trace_lines.specs.declared.fault.LineError.{LineError}
use Rattle.trace_lines.specs.declared.fault.LineError.TheVariants as errors
use Rattle.trace_lines.specs.Steps.{◌>>=◌, with_front, Fails}
use Rattle.trace_lines.specs.Words.{is_separator, each}
use Rattle.trace_lines.specs.Grammar.{call_of, calls_of}
use Rattle.trace_lines.proofs.ListLoop.{regroup}

abbrev before : Result (List Call) LineFault → Call → Result (List Call) LineFault
before r call = with_front (call ∷ []) r

one_more : (part : List (List ℕ)) (parts : List (List (List ℕ))) → each call_of (part ∷ parts) ≡ (call_of part >>= before (each call_of parts))
unfolding each
one_more part parts = refl

pub goes_on : (front : List Call) (ws part rest : List (List ℕ)) (call : Call) → slice_split is_separator ws ≡ part ∷ slice_split is_separator rest → call_of part ≡ Ok call
    → with_front (front ++ call ∷ []) (calls_of rest) ≡ with_front front (calls_of ws)
unfolding each
goes_on front ws part rest call parts e =
    sym (ap (λ (ps : List (List (List ℕ))). with_front front (each call_of ps)) parts ∙ ap (λ (r : Result Call LineFault). with_front front (r >>= before (calls_of rest))) e ∙ regroup front call (calls_of rest))

pub fails : (e : LineError) (front : List Call) (ws part : List (List ℕ)) (parts : List (List (List ℕ))) → slice_split is_separator ws ≡ part ∷ parts → Fails e (call_of part) → Fails e (with_front front (calls_of ws))
fails errors.Memory front ws part parts split h = tt
fails (errors.At s) front ws part parts split h = ap (λ (ps : List (List (List ℕ))). with_front front (each call_of ps)) split ∙ ap (with_front front) (one_more part parts ∙ ap (λ (r : Result Call LineFault). r >>= before (each call_of parts)) h)

pub is_last : (front : List Call) (ws : List (List ℕ)) (call : Call) → slice_split is_separator ws ≡ ws ∷ [] → call_of ws ≡ Ok call → with_front front (calls_of ws) ≡ Ok (front ++ call ∷ [])
unfolding each
is_last front ws call split e = ap (λ (ps : List (List (List ℕ))). with_front front (each call_of ps)) split ∙ rw e refl
