-- The figures of an answer: every row, by computing the definitions.
-- Assumes nothing.
use Rattle.std.proofs.Common.{map, ◌≡◌, refl}
use Rattle.valuing.specs.Figures.{answer_figures}

pub answer_figures_hold : map (λ r. r.worked) answer_figures ≡ map (λ r. r.stated) answer_figures
answer_figures_hold = refl
