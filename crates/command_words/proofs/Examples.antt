-- What some words ask for.
use Rattle.std.specs.Prelude.{◌≡◌, ℕ, true, false, List, [], ◌∷◌, Some, None, Result, Ok, Err, codes, refl}
use Rattle.std.specs.Path.{path_components, path_names}
use Rattle.clap.proofs.OnLiterals.{clap_on_literals}
use Rattle.front_end.specs.declared.format.Format.TheVariants.{Verilog, Aiger}
use Rattle.word_values.specs.declared.usage.Usage.{Usage}
use Rattle.word_values.specs.declared.usage.Usage.TheVariants.{Command, Words, Number, Name, Kind}
use Rattle.word_values.specs.Arguments.{read_by}
use Rattle.command_words.specs.Check.{check_arguments}
use Rattle.command_words.specs.Find.{find_arguments}
use Rattle.command_words.specs.Sim.{sim_arguments}
use Rattle.command_words.specs.Make.{make_arguments}
use Rattle.requests.specs.Asked.{Asked, ListingAsked, find, sim, check, make, help}
use Rattle.requests.specs.declared.help.HelpPage.TheVariants as page
use Rattle.command_words.specs.Words.{asked as asked_by}

-- where two kinds of suspects are known
abbrev asked : List (List ℕ) → Result Asked Usage
asked words = asked_by (codes "stmt" ∷ codes "block" ∷ []) words

-- a list where no other option is given
abbrev plain_list : List (List ℕ) → ListingAsked
plain_list suspects = record {
  suspects = suspects;
  size = 2;
  budget = 200000;
  sets = 1000;
  workers = 1;
  log = codes "localise.log";
  report = codes "localise.json";
}

-- a line's words behind the command
abbrev find_words : List (List ℕ) → List (List ℕ)
find_words words = codes "find" ∷ codes "m.v" ∷ codes "m" ∷ codes "t" ∷ words

abbrev sim_words : List (List ℕ) → List (List ℕ)
sim_words words = codes "sim" ∷ codes "m.v" ∷ codes "m" ∷ words

a_name_of_a_command_that_is_not_known : asked (codes "look" ∷ []) ≡ Err Command
a_name_of_a_command_that_is_not_known = refl

what_stands_where_no_option_is_given
    : asked (find_words [])
    ≡ Ok (find (record {
      sources = record { texts = record { design = codes "m.v"; format = Verilog; top = codes "m"; traces = codes "t" ∷ []; scope = None; zero_inputs = false }; clock = None };
      listing = plain_list (codes "stmt" ∷ []);
      resume = None;
      waves = None;
      checkpoints = None;
    }))
unfolding clap_on_literals read_by find_arguments path_components path_names
what_stands_where_no_option_is_given = refl

what_is_made_where_no_option_is_given
    : asked (codes "make" ∷ codes "7" ∷ [])
    ≡ Ok (make (record {
      number = 7;
      design = codes "made.v";
      trace = codes "made.vcd";
      listing = plain_list (codes "stmt" ∷ []);
    }))
unfolding clap_on_literals read_by make_arguments path_components path_names
what_is_made_where_no_option_is_given = refl

the_report_stands_before_the_log
    : asked (codes "check" ∷ codes "m.v" ∷ codes "m" ∷ codes "r" ∷ codes "l" ∷ codes "t" ∷ codes "u" ∷ [])
    ≡ Ok (check (record {
      texts = record { design = codes "m.v"; format = Verilog; top = codes "m"; traces = codes "t" ∷ codes "u" ∷ []; scope = None; zero_inputs = false };
      report = codes "r";
      log = codes "l";
      workers = 1;
    }))
unfolding clap_on_literals read_by check_arguments
the_report_stands_before_the_log = refl

two_kinds_of_suspects_and_waves
    : asked (find_words (codes "--suspects" ∷ codes "block,stmt" ∷ codes "u" ∷ codes "--clock=c" ∷ codes "--waves=w" ∷ []))
    ≡ Ok (find (record {
      sources = record {
        texts = record { design = codes "m.v"; format = Verilog; top = codes "m"; traces = codes "t" ∷ codes "u" ∷ []; scope = None; zero_inputs = false };
        clock = Some (codes "c");
      };
      listing = plain_list (codes "block" ∷ codes "stmt" ∷ []);
      resume = None;
      waves = Some (codes "w");
      checkpoints = None;
    }))
unfolding clap_on_literals read_by find_arguments path_components path_names
two_kinds_of_suspects_and_waves = refl

waves_among_which_a_trace_would_be : asked (find_words (codes "t-1-1.vcd" ∷ codes "--waves=t" ∷ [])) ≡ Err Name
unfolding clap_on_literals read_by find_arguments path_components path_names
waves_among_which_a_trace_would_be = refl

checkpoints_that_a_killed_run_leaves
    : asked (find_words (codes "--checkpoint=run" ∷ []))
    ≡ Ok (find (record {
      sources = record { texts = record { design = codes "m.v"; format = Verilog; top = codes "m"; traces = codes "t" ∷ []; scope = None; zero_inputs = false }; clock = None };
      listing = plain_list (codes "stmt" ∷ []);
      resume = None;
      waves = None;
      checkpoints = Some (codes "run");
    }))
unfolding clap_on_literals read_by find_arguments path_components path_names
checkpoints_that_a_killed_run_leaves = refl

checkpoints_among_which_the_log_would_be : asked (find_words (codes "--log=run-1.log" ∷ codes "--checkpoint=./run" ∷ [])) ≡ Err Name
unfolding clap_on_literals read_by find_arguments path_components path_names
checkpoints_among_which_the_log_would_be = refl

checkpoints_among_which_waves_would_be : asked (find_words (codes "--waves=w" ∷ codes "--checkpoint=w" ∷ [])) ≡ Err Name
unfolding clap_on_literals read_by find_arguments path_components path_names
checkpoints_among_which_waves_would_be = refl

a_session_that_is_gone_on_from
    : asked (find_words (codes "--resume=a.json" ∷ codes "--resume-log" ∷ codes "a.log" ∷ []))
    ≡ Ok (find (record {
      sources = record { texts = record { design = codes "m.v"; format = Verilog; top = codes "m"; traces = codes "t" ∷ []; scope = None; zero_inputs = false }; clock = None };
      listing = plain_list (codes "stmt" ∷ []);
      resume = Some (record { report = codes "a.json"; log = codes "a.log" });
      waves = None;
      checkpoints = None;
    }))
unfolding clap_on_literals read_by find_arguments path_components path_names
a_session_that_is_gone_on_from = refl

a_session_without_its_log : asked (find_words (codes "--resume=a.json" ∷ [])) ≡ Err Name
unfolding clap_on_literals read_by find_arguments path_components path_names
a_session_without_its_log = refl

-- the names that stand where no option is given count like others
a_session_that_would_be_written_over
    : asked (find_words (codes "--resume=localise.json" ∷ codes "--resume-log=localise.log" ∷ [])) ≡ Err Name
unfolding clap_on_literals read_by find_arguments path_components path_names
a_session_that_would_be_written_over = refl

waves_among_which_a_session_would_be
    : asked (find_words (codes "--resume=a.json" ∷ codes "--resume-log=./w-1-1.vcd" ∷ codes "--waves=w" ∷ [])) ≡ Err Name
unfolding clap_on_literals read_by find_arguments path_components path_names
waves_among_which_a_session_would_be = refl

an_input_of_the_number_10000 : asked (codes "make" ∷ codes "10000" ∷ []) ≡ Err Number
unfolding clap_on_literals read_by make_arguments path_components path_names
an_input_of_the_number_10000 = refl

an_option_that_stands_twice : asked (find_words (codes "--size=1" ∷ codes "--size=1" ∷ [])) ≡ Err Words
unfolding clap_on_literals read_by find_arguments path_components path_names
an_option_that_stands_twice = refl

a_request_for_help_after_a_command : asked (codes "sim" ∷ codes "--help" ∷ []) ≡ Err Words
unfolding clap_on_literals read_by sim_arguments
a_request_for_help_after_a_command = refl

help_alone : asked (codes "help" ∷ []) ≡ Ok (help (record { page = page.Overview }))
help_alone = refl

help_on_a_command : asked (codes "help" ∷ codes "check" ∷ []) ≡ Ok (help (record { page = page.Check }))
help_on_a_command = refl

help_on_no_command : asked (codes "help" ∷ codes "help" ∷ []) ≡ Err Words
help_on_no_command = refl

the_versions : asked (codes "--version" ∷ []) ≡ Ok (help (record { page = page.Version }))
the_versions = refl

a_word_after_an_option_that_asks_for_help : asked (codes "-h" ∷ codes "find" ∷ []) ≡ Err Words
a_word_after_an_option_that_asks_for_help = refl

the_log_under_another_name_of_the_trace : asked (find_words (codes "--log=./t" ∷ [])) ≡ Err Name
unfolding clap_on_literals read_by find_arguments path_components path_names
the_log_under_another_name_of_the_trace = refl

the_report_under_the_name_of_the_trace : asked (find_words (codes "--report" ∷ codes "t" ∷ [])) ≡ Err Name
unfolding clap_on_literals read_by find_arguments path_components path_names
the_report_under_the_name_of_the_trace = refl

a_kind_that_is_named_twice : asked (find_words (codes "--suspects=stmt,stmt" ∷ [])) ≡ Err Kind
unfolding clap_on_literals read_by find_arguments path_components path_names
a_kind_that_is_named_twice = refl

a_dashed_word_is_no_value : asked (sim_words (codes "t" ∷ codes "--clock" ∷ codes "-c" ∷ [])) ≡ Err Words
unfolding clap_on_literals read_by sim_arguments
a_dashed_word_is_no_value = refl

behind_two_dashes_all_words_are_positional
    : asked (sim_words (codes "--" ∷ codes "--clock" ∷ codes "-" ∷ []))
    ≡ Ok (sim (record {
      sources = record {
        texts = record { design = codes "m.v"; format = Verilog; top = codes "m"; traces = codes "--clock" ∷ codes "-" ∷ []; scope = None; zero_inputs = false };
        clock = None;
      };
      exit_code = false;
    }))
unfolding clap_on_literals read_by sim_arguments
behind_two_dashes_all_words_are_positional = refl

-- ---- a first word and `--`, and nothing else, ask for nothing
two_dashes_behind_find : asked (codes "find" ∷ codes "--" ∷ []) ≡ Err Words
unfolding clap_on_literals read_by find_arguments
two_dashes_behind_find = refl

two_dashes_behind_sim : asked (codes "sim" ∷ codes "--" ∷ []) ≡ Err Words
unfolding clap_on_literals read_by sim_arguments
two_dashes_behind_sim = refl

two_dashes_behind_check : asked (codes "check" ∷ codes "--" ∷ []) ≡ Err Words
unfolding clap_on_literals read_by check_arguments
two_dashes_behind_check = refl

two_dashes_behind_make : asked (codes "make" ∷ codes "--" ∷ []) ≡ Err Words
unfolding clap_on_literals read_by make_arguments
two_dashes_behind_make = refl

two_dashes_behind_help : asked (codes "help" ∷ codes "--" ∷ []) ≡ Err Words
two_dashes_behind_help = refl

two_dashes_behind_an_option_that_asks_for_help : asked (codes "--help" ∷ codes "--" ∷ []) ≡ Err Words
two_dashes_behind_an_option_that_asks_for_help = refl

two_dashes_behind_no_command : asked (codes "" ∷ codes "--" ∷ []) ≡ Err Command
two_dashes_behind_no_command = refl

a_design_in_aiger
    : asked (sim_words (codes "t" ∷ codes "--format" ∷ codes "aiger" ∷ []))
    ≡ Ok (sim (record {
      sources = record {
        texts = record { design = codes "m.v"; format = Aiger; top = codes "m"; traces = codes "t" ∷ []; scope = None; zero_inputs = false };
        clock = None;
      };
      exit_code = false;
    }))
unfolding clap_on_literals read_by sim_arguments
a_design_in_aiger = refl

a_status_that_tells
    : asked (sim_words (codes "--exit-code" ∷ codes "t" ∷ []))
    ≡ Ok (sim (record {
      sources = record {
        texts = record { design = codes "m.v"; format = Verilog; top = codes "m"; traces = codes "t" ∷ []; scope = None; zero_inputs = false };
        clock = None;
      };
      exit_code = true;
    }))
unfolding clap_on_literals read_by sim_arguments
a_status_that_tells = refl

a_flag_with_a_value : asked (sim_words (codes "--exit-code=yes" ∷ codes "t" ∷ [])) ≡ Err Words
unfolding clap_on_literals read_by sim_arguments
a_flag_with_a_value = refl

a_flag_that_is_given_twice : asked (sim_words (codes "--exit-code" ∷ codes "t" ∷ codes "--exit-code" ∷ [])) ≡ Err Words
unfolding clap_on_literals read_by sim_arguments
a_flag_that_is_given_twice = refl

-- ---- how dumps are read
the_scope_of_a_golden_model_and_no_unknown_inputs
    : asked (sim_words (codes "t" ∷ codes "--scope=tb.golden" ∷ codes "--x-inputs" ∷ codes "0" ∷ []))
    ≡ Ok (sim (record {
      sources = record {
        texts = record {
          design = codes "m.v";
          format = Verilog;
          top = codes "m";
          traces = codes "t" ∷ [];
          scope = Some (codes "tb.golden");
          zero_inputs = true;
        };
        clock = None;
      };
      exit_code = false;
    }))
unfolding clap_on_literals read_by sim_arguments
the_scope_of_a_golden_model_and_no_unknown_inputs = refl

unknown_inputs_read_as_1 : asked (sim_words (codes "t" ∷ codes "--x-inputs=1" ∷ [])) ≡ Err Name
unfolding clap_on_literals read_by sim_arguments
unknown_inputs_read_as_1 = refl

a_scope_of_no_name : asked (sim_words (codes "t" ∷ codes "--scope=" ∷ [])) ≡ Err Name
unfolding clap_on_literals read_by sim_arguments
a_scope_of_no_name = refl

a_format_that_is_none : asked (sim_words (codes "t" ∷ codes "--format=aig" ∷ [])) ≡ Err Name
unfolding clap_on_literals read_by sim_arguments
a_format_that_is_none = refl
