use Rattle.std.proofs.Common.{◌≡◌, ◌≤◌}
use Rattle.bw_scripts.specs.declared.player.TheConstants.{MOST_LINES}
use Rattle.bw_film.proofs.script.film_script.Given as goal

abbrev pub invariant-loop-line : goal.invariant-loop-line
invariant-loop-line g l = record {
  choice : l.film.choice ≡ l.fn.choice;
  within : l.player.lines ≤ MOST_LINES;
}
