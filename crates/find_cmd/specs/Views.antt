-- What a list is asked, as plain data.
use Rattle.std.specs.Prelude.{Option, Some, None}
use Rattle.std.specs.Option.{option_copied}
use Rattle.requests.specs.Asked.{FindAsked, SessionNames}
use Rattle.requests.specs.Views.{listing_asked, session_names, sources_asked}
use Rattle.find_cmd.specs.declared.request.ListRequest.{ListRequest}
use Rattle.find_cmd.specs.declared.request.ResumeRequest.{ResumeRequest}

-- what is asked, with this in the place of the session
abbrev pub with_resume : Option SessionNames → FindAsked → FindAsked
with_resume resume asked = record {
  sources = asked.sources;
  listing = asked.listing;
  resume = resume;
  waves = asked.waves;
  checkpoints = asked.checkpoints;
}

-- a list that goes on from no session
abbrev pub list_asked : ListRequest → FindAsked
list_asked request = record {
  sources = sources_asked request.sources;
  listing = listing_asked request.listing.now;
  resume = None;
  waves = option_copied request.waves;
  checkpoints = option_copied request.checkpoints;
}

-- and one that goes on from one
abbrev pub resume_asked : ResumeRequest → FindAsked
resume_asked request = with_resume (Some (session_names request.names.now)) (list_asked request.list)
