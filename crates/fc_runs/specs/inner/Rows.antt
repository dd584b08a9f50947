-- What a row keeps of what searches tell.
use Rattle.fc_search.specs.Watch.{Report}
use Rattle.fc_runs.specs.declared.answer_rows.Last.{Last}
use Rattle.fc_runs.specs.Rows.{KeepsFar}

-- a listener keeps what is told last
abbrev pub LastKeeps : Last → Report → Last → Type 0
LastKeeps old report new = KeepsFar old.far report new.far
