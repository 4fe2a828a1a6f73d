-- How runs that got their table with their input answer queries.
use Rattle.wh_workflow.specs.Queries.{Queries}
use Rattle.wh_rows.specs.Queries.{row_query}
use Rattle.wh_table.specs.declared.state.TableState.{TableState}

-- the answer of the table's rows: only `state` is known. Before the start, or without a table, the name of the state is
-- empty
abbrev pub table_queries : Queries TableState
table_queries state query_type input = row_query state.run query_type
