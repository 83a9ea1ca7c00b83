-- SPDX-License-Identifier: Apache-2.0
pub mod Text
pub mod Record
pub mod Words
pub mod Rules
