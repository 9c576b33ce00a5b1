-- Changes whose names stand in bytes: the rows and the changes that they are.
use Rattle.dl_base.specs.declared.row.NamedRow.{NamedRow}
use Rattle.dl_base.specs.declared.row.NamedRow.TheVariants as rows
use Rattle.dl_base.specs.declared.row.NamedChange.{NamedChange}
use Rattle.txn_codec.specs.declared.change_view.RowView.{RowView}
use Rattle.txn_codec.specs.declared.change_view.RowView.TheVariants as views
use Rattle.txn_codec.specs.declared.change_view.ChangeView.{ChangeView}

abbrev pub row_viewed : RowView → NamedRow
row_viewed (views.Concept concept individual) = rows.Concept concept individual
row_viewed (views.Role role from to) = rows.Role role from to

abbrev pub change_viewed : ChangeView → NamedChange
change_viewed change = record { add = change.add; row = row_viewed change.row }
