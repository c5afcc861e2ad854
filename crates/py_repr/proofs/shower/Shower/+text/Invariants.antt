use Rattle.std.proofs.Common.{◌*◌, ◌+◌}
use Rattle.py_repr.proofs.shower.Shower.+text.Given as goal

abbrev pub decreases-show_str : goal.decreases-show_str
decreases-show_str l = 4 * l.depth + 1

abbrev pub decreases-show_obj_str : goal.decreases-show_obj_str
decreases-show_obj_str l = 4 * l.depth

abbrev pub decreases-show_message : goal.decreases-show_message
decreases-show_message l = 4 * l.depth + 3

abbrev pub decreases-show_one : goal.decreases-show_one
decreases-show_one l = 4 * l.depth + 2
