-- Steps as text, a line each.
use Rattle.std.specs.Prelude.{ℕ, List, ◌++◌, codes, decimal}
use Rattle.std.specs.List.{flat_map}
use Rattle.xp_words.specs.Machine.{Machine}
use Rattle.xp_board.specs.Runs.{place_of}
use Rattle.report_text.specs.WordTexts.{hex}
use Rattle.step_text.specs.Names.{kind_text, place_text, act_text, mark_text}
use Rattle.step_text.specs.declared.told.ToldStep.{ToldStep}

-- whose step it is, what it is for, its word, what it does there, what it found, and what it means beside
unfoldable pub told_line : Machine → ToldStep → List ℕ
told_line n x =
    codes "step " ++ (decimal x.vcpu ++ (codes " " ++ (kind_text x.step.kind ++ (codes " " ++ (place_text (place_of n x.step)
    ++ (codes " " ++ (act_text x.step.act ++ (codes " found " ++ (hex x.found ++ (mark_text x.step.mark ++ codes "\n"))))))))))

-- in the order of the list
unfoldable pub steps_text_of : Machine → List ToldStep → List ℕ
steps_text_of n steps = flat_map (told_line n) steps
