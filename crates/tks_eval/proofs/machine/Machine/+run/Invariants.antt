use Rattle.std.proofs.Common.{◌≡◌, ◌≤◌, ◌<◌, ◌+◌, ◌-◌, ◌*◌, ◌⊎◌, length, drop}
use Rattle.tks_parse.specs.Tree.{parts_size, words_size, script_size}
use Rattle.tks_parse.specs.View.{parts_of, words_of}
use Rattle.tks_eval.specs.Evaluation.{parts_do, words_do, branches_do, loop_does, each, scripts_do, update_does}
use Rattle.tks_eval.specs.Counting.{items_go}
use Rattle.tks_eval.specs.Machine.{after_frame, ended, level_of, done_by, items_weight}
use Rattle.tks_eval.specs.declared.frame.Frame.TheVariants as frame
use Rattle.tks_eval.proofs.Scripts.{GoesOn}
use Rattle.tks_eval.proofs.machine.Machine.+run.Given as goal

abbrev pub decreases-count : goal.decreases-count
decreases-count g l = 12 * l.near + 3

abbrev pub decreases-do_command : goal.decreases-do_command
decreases-do_command g l = 12 * l.near + 8

abbrev pub decreases-do_thing : goal.decreases-do_thing
decreases-do_thing g l = 12 * l.near + 4

abbrev pub decreases-make_index : goal.decreases-make_index
decreases-make_index g l = 12 * l.near + 0

abbrev pub decreases-make_parts : goal.decreases-make_parts
decreases-make_parts g l = 12 * l.near + 2

abbrev pub decreases-make_text : goal.decreases-make_text
decreases-make_text g l = 12 * l.near + 1

abbrev pub decreases-make_turns : goal.decreases-make_turns
decreases-make_turns g l = 12 * l.near + 5

abbrev pub decreases-make_words : goal.decreases-make_words
decreases-make_words g l = 12 * l.near + 9

abbrev pub decreases-next_branches : goal.decreases-next_branches
decreases-next_branches g l = 12 * l.near + 5

abbrev pub decreases-next_elements : goal.decreases-next_elements
decreases-next_elements g l = 12 * l.near + 1

abbrev pub decreases-next_scripts : goal.decreases-next_scripts
decreases-next_scripts g l = 12 * l.near + 1

abbrev pub decreases-next_things : goal.decreases-next_things
decreases-next_things g l = 12 * l.near + 2

abbrev pub decreases-run_body : goal.decreases-run_body
decreases-run_body g l = 12 * l.near + 1

abbrev pub decreases-run_catch : goal.decreases-run_catch
decreases-run_catch g l = 12 * l.near + 1

abbrev pub decreases-run_command : goal.decreases-run_command
decreases-run_command g l = 12 * l.near + 10

abbrev pub decreases-run_commands : goal.decreases-run_commands
decreases-run_commands g l = 12 * l.near + 11

abbrev pub decreases-run_control : goal.decreases-run_control
decreases-run_control g l = 12 * l.near + 7

abbrev pub decreases-run_eval : goal.decreases-run_eval
decreases-run_eval g l = 12 * l.near + 1

abbrev pub decreases-run_expr : goal.decreases-run_expr
decreases-run_expr g l = 12 * l.near + 6

abbrev pub decreases-run_expression : goal.decreases-run_expression
decreases-run_expression g l = 12 * l.near + 5

abbrev pub decreases-run_for : goal.decreases-run_for
decreases-run_for g l = 12 * l.near + 6

abbrev pub decreases-run_foreach : goal.decreases-run_foreach
decreases-run_foreach g l = 12 * l.near + 2

abbrev pub decreases-run_global : goal.decreases-run_global
decreases-run_global g l = 12 * l.near + 1

abbrev pub decreases-run_if : goal.decreases-run_if
decreases-run_if g l = 12 * l.near + 6

abbrev pub decreases-run_plan : goal.decreases-run_plan
decreases-run_plan g l = 12 * l.near + 3

abbrev pub decreases-run_procedure : goal.decreases-run_procedure
decreases-run_procedure g l = 12 * l.near + 1

abbrev pub decreases-run_script : goal.decreases-run_script
decreases-run_script g l = 12 * l.near + 0

abbrev pub decreases-run_test : goal.decreases-run_test
decreases-run_test g l = 12 * l.near + 5

abbrev pub decreases-run_while : goal.decreases-run_while
decreases-run_while g l = 12 * l.near + 6

abbrev pub decreases-value : goal.decreases-value
decreases-value g l = 12 * l.near + 4

abbrev pub invariant-make_text-part : goal.invariant-make_text-part
invariant-make_text-part g l = record {
  place : g.H.Host.place l.host ≡ g.H.Host.place l.fn.host;
  limits : l.self.limits ≡ l.fn.self.limits;
  left : l.self.left ≡ l.fn.self.left;
  spends : l.self.fuel ≤ l.fn.self.fuel;
  size : parts_size (parts_of l.parts) ≤ parts_size (parts_of l.fn.parts);
  goes : done_by (parts_do l.fn.self.limits (level_of g.H.Host.meaning l.fn.self) (parts_of l.fn.parts) l.fn.made) (g.H.Host.state l.fn.host) l.fn.self
      ≡ done_by (parts_do l.fn.self.limits (level_of g.H.Host.meaning l.fn.self) (parts_of l.parts) l.made) (g.H.Host.state l.host) l.self;
}

abbrev pub decreases-make_text-part : goal.decreases-make_text-part
decreases-make_text-part g l = length l.parts

abbrev pub invariant-make_words-word : goal.invariant-make_words-word
invariant-make_words-word g l = record {
  place : g.H.Host.place l.host ≡ g.H.Host.place l.fn.host;
  limits : l.self.limits ≡ l.fn.self.limits;
  left : l.self.left ≡ l.fn.self.left;
  spends : l.self.fuel ≤ l.fn.self.fuel;
  size : words_size (words_of l.rest) ≤ words_size (words_of l.fn.rest);
  goes : done_by (words_do g.H.Host.meaning l.fn.self.limits (level_of g.H.Host.meaning l.fn.self) (words_of l.fn.rest) l.fn.words) (g.H.Host.state l.fn.host) l.fn.self
      ≡ done_by (words_do g.H.Host.meaning l.fn.self.limits (level_of g.H.Host.meaning l.fn.self) (words_of l.rest) l.words) (g.H.Host.state l.host) l.self;
}

abbrev pub decreases-make_words-word : goal.decreases-make_words-word
decreases-make_words-word g l = length l.rest

abbrev pub invariant-count-item : goal.invariant-count-item
invariant-count-item g l = record {
  place : g.H.Host.place l.host ≡ g.H.Host.place l.fn.host;
  limits : l.self.limits ≡ l.fn.self.limits;
  left : l.self.left ≡ l.fn.self.left;
  spends : l.self.fuel ≤ l.fn.self.fuel;
  size : items_weight l.rest ≤ items_weight (drop (length l.fn.items - l.fn.left) l.fn.items);
  rest : l.rest ≡ drop (length l.fn.items - length l.rest) l.fn.items;
  within : length l.rest ≤ length l.fn.items;
  goes : done_by (items_go l.fn.self.limits (level_of g.H.Host.meaning l.fn.self) (drop (length l.fn.items - l.fn.left) l.fn.items) l.fn.values) (g.H.Host.state l.fn.host) l.fn.self
      ≡ done_by (items_go l.fn.self.limits (level_of g.H.Host.meaning l.fn.self) l.rest l.values) (g.H.Host.state l.host) l.self;
}

abbrev pub decreases-count-item : goal.decreases-count-item
decreases-count-item g l = length l.rest

abbrev pub invariant-next_branches-test : goal.invariant-next_branches-test
invariant-next_branches-test g l = record {
  place : g.H.Host.place l.host ≡ g.H.Host.place l.fn.host;
  limits : l.self.limits ≡ l.fn.self.limits;
  left : l.self.left ≡ l.fn.self.left;
  spends : l.self.fuel ≤ l.fn.self.fuel;
  otherwise : l.otherwise ≡ l.fn.branches.otherwise;
  took : l.tests ≡ l.fn.branches.tests ⊎ (l.self.fuel < l.fn.self.fuel);
  goes : done_by (branches_do l.fn.self.limits (level_of g.H.Host.meaning l.fn.self) l.fn.branches.otherwise l.fn.branches.tests) (g.H.Host.state l.fn.host) l.fn.self
      ≡ done_by (branches_do l.fn.self.limits (level_of g.H.Host.meaning l.fn.self) l.fn.branches.otherwise l.tests) (g.H.Host.state l.host) l.self;
}

abbrev pub decreases-next_branches-test : goal.decreases-next_branches-test
decreases-next_branches-test g l = length l.tests

abbrev pub invariant-make_turns-turn : goal.invariant-make_turns-turn
invariant-make_turns-turn g l = record {
  place : g.H.Host.place l.host ≡ g.H.Host.place l.fn.host;
  limits : l.self.limits ≡ l.fn.self.limits;
  left : l.self.left ≡ l.fn.self.left;
  spends : l.self.fuel ≤ l.fn.self.fuel;
  turns : l.turns ≡ l.fn.turns;
  goes : done_by (loop_does l.fn.self.limits (level_of g.H.Host.meaning l.fn.self) l.fn.turns) (g.H.Host.state l.fn.host) l.fn.self
      ≡ done_by (loop_does l.fn.self.limits (level_of g.H.Host.meaning l.fn.self) l.fn.turns) (g.H.Host.state l.host) l.self;
}

abbrev pub decreases-make_turns-turn : goal.decreases-make_turns-turn
decreases-make_turns-turn g l = l.self.fuel

abbrev pub invariant-next_elements-element : goal.invariant-next_elements-element
invariant-next_elements-element g l = record {
  place : g.H.Host.place l.host ≡ g.H.Host.place l.fn.host;
  limits : l.self.limits ≡ l.fn.self.limits;
  left : l.self.left ≡ l.fn.self.left;
  spends : l.self.fuel ≤ l.fn.self.fuel;
  goes : done_by (each l.fn.self.limits (level_of g.H.Host.meaning l.fn.self) l.name l.body l.fn.elements) (g.H.Host.state l.fn.host) l.fn.self
      ≡ done_by (each l.fn.self.limits (level_of g.H.Host.meaning l.fn.self) l.name l.body l.elements) (g.H.Host.state l.host) l.self;
}

abbrev pub decreases-next_elements-element : goal.decreases-next_elements-element
decreases-next_elements-element g l = length l.elements

abbrev pub invariant-next_scripts-script : goal.invariant-next_scripts-script
invariant-next_scripts-script g l = record {
  place : g.H.Host.place l.host ≡ g.H.Host.place l.fn.host;
  limits : l.self.limits ≡ l.fn.self.limits;
  left : l.self.left ≡ l.fn.self.left;
  spends : l.self.fuel ≤ l.fn.self.fuel;
  goes : done_by (scripts_do g.H.Host.meaning (level_of g.H.Host.meaning l.fn.self) l.window l.fn.scripts) (g.H.Host.state l.fn.host) l.fn.self
      ≡ done_by (scripts_do g.H.Host.meaning (level_of g.H.Host.meaning l.fn.self) l.window l.scripts) (g.H.Host.state l.host) l.self;
}

abbrev pub decreases-next_scripts-script : goal.decreases-next_scripts-script
decreases-next_scripts-script g l = length l.scripts

abbrev pub invariant-next_things-thing : goal.invariant-next_things-thing
invariant-next_things-thing g l = record {
  place : g.H.Host.place l.host ≡ g.H.Host.place l.fn.host;
  limits : l.self.limits ≡ l.fn.self.limits;
  left : l.self.left ≡ l.fn.self.left;
  spends : l.self.fuel ≤ l.fn.self.fuel;
  goes : done_by (update_does g.H.Host.meaning l.fn.self.limits (level_of g.H.Host.meaning l.fn.self) l.due) (g.H.Host.state l.fn.host) l.fn.self
      ≡ done_by (update_does g.H.Host.meaning l.fn.self.limits (level_of g.H.Host.meaning l.fn.self) l.due) (g.H.Host.state l.host) l.self;
}

abbrev pub decreases-next_things-thing : goal.decreases-next_things-thing
decreases-next_things-thing g l = l.self.fuel

abbrev pub invariant-run_commands-command : goal.invariant-run_commands-command
invariant-run_commands-command g l = record {
  place : g.H.Host.place l.host ≡ g.H.Host.place l.fn.host;
  limits : l.self.limits ≡ l.fn.self.limits;
  left : l.self.left ≡ l.fn.self.left;
  spends : l.self.fuel ≤ l.fn.self.fuel;
  size : script_size l.rest ≤ script_size l.fn.rest;
  goes : GoesOn g.H.Host.meaning l.fn.self.limits (level_of g.H.Host.meaning l.fn.self) l.fn.asked
      (after_frame g.H.Host.meaning l.fn.self.limits l.fn.self.left (frame.Commands l.fn.rest l.levels) (done_by (ended l.fn.end) (g.H.Host.state l.fn.host) l.fn.self))
      l.rest l.end (g.H.Host.state l.host) l.self.variables l.self.fuel;
}

abbrev pub decreases-run_commands-command : goal.decreases-run_commands-command
decreases-run_commands-command g l = script_size l.rest
